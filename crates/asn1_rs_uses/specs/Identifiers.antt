-- Object identifiers, as they are read by DER.
use Rattle.std.specs.Prelude.{ℕ, List, [], ◌∷◌}
use Rattle.asn1_rs.specs.Grammar.{DerWord}
use Rattle.asn1_rs.specs.Oid.{OidValue, oid_element}

-- the words by DER: the elements that are primitive and of definite length, under any tag, with their contents octets
abbrev pub OidByDer : List ℕ → OidValue → Type 0
OidByDer = DerWord oid_element.Check oid_element.Body

-- the contents octets of 1.2.840.113549.1.1
abbrev pub rsa_octets : List ℕ
rsa_octets = 42 ∷ 134 ∷ 72 ∷ 134 ∷ 247 ∷ 13 ∷ 1 ∷ 1 ∷ []
