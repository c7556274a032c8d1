-- Borrowed octets under a tag whose number is told at run time.
use Rattle.std.specs.Prelude.{◌≡◌, ℕ, List, ◌++◌, Err}
use Rattle.x690.specs.Elements.{Parts, IsDerElement}
use Rattle.asn1_headers.specs.declared.error.Err.{Err as Refusal}
use Rattle.asn1_headers.specs.declared.error.Error.{Error}
use Rattle.asn1_rs.specs.Checks.{is_primitive}
use Rattle.asn1_rs.specs.Leaf.{LendsContent}
use Rattle.asn1_rs.specs.OctetString.{cow_of, octet_string_leaf, octet_string_number}
use Rattle.asn1_rs.specs.Tagged.{ThenByDer}
use Rattle.asn1_rs.specs.Tagged.Parser.{ChecksAndConverts, Expects, TagCheckGives, TakesImplicit, TakesWholeContent}
use Rattle.asn1_rs.specs.Traits.{DerGives}
use Rattle.asn1_rs.specs.declared.asn1_types.octet_string.OctetString.{OctetString}
use Rattle.asn1_rs.specs.declared.asn1_types.tagged.Explicit.{Explicit}
use Rattle.asn1_rs.specs.declared.asn1_types.tagged.Implicit.{Implicit}
use Rattle.asn1_rs_uses.specs.Borrowed.{StringByDer}

-- an element by DER of this tag number begins the octets, and the rest follows
pub record BeginsWithElementOf (number : ℕ) (octets : List ℕ) (parts : Parts) (rest : List ℕ) : Type 0 where
  pub word : List ℕ
  pub element : IsDerElement word parts
  pub is : octets ≡ word ++ rest
  pub number_is : parts.id.number ≡ number

-- its contents octets are an octet string by DER, and nothing else
abbrev pub BeginsUnderNumber : ℕ → List ℕ → List ℕ → List ℕ → Type 0
BeginsUnderNumber number octets string rest =
    (parts : Parts) × BeginsWithElementOf number octets parts rest × StringByDer parts.content string

-- these are its contents octets
abbrev pub BeginsWithContentsUnder : ℕ → List ℕ → List ℕ → List ℕ → Type 0
BeginsWithContentsUnder number octets content rest =
    (parts : Parts) × BeginsWithElementOf number octets parts rest × (parts.content ≡ content)

-- and it is of the context-specific class
abbrev pub BeginsUnderTag : ℕ → List ℕ → List ℕ → List ℕ → Type 0
BeginsUnderTag number octets content rest =
    (parts : Parts) × BeginsWithElementOf number octets parts rest × (parts.id.class ≡ 2) × (parts.content ≡ content)

-- an error stays as it is
abbrev pub SameError : Error → Error → Type 0
SameError e f = f ≡ e

-- Refused first as the element is. Then it is refused as an octet string in the contents octets is, or for octets
-- behind the string. The last refusal is for the tag number.
abbrev pub RefusesStringUnder : ℕ → List ℕ → Refusal Error → Type 0
RefusesStringUnder number octets r = Expects {K = Explicit} {T = OctetString} {E = Error}
    (ThenByDer SameError
    (TakesWholeContent (DerGives is_primitive (LendsContent octet_string_leaf cow_of) SameError) SameError))
    (TagCheckGives (record { 0 = number })) SameError octets (Err r)

-- Refused first as the element is. Then it is refused as its conversion to an octet string is, under the tag number of
-- these. The last refusal is for the tag number.
abbrev pub RefusesOctetsUnder : ℕ → List ℕ → Refusal Error → Type 0
RefusesOctetsUnder number octets r = Expects {K = Implicit} {T = OctetString} {E = Error}
    (ThenByDer SameError (TakesImplicit (record { 0 = octet_string_number })
    (ChecksAndConverts is_primitive (LendsContent octet_string_leaf cow_of) SameError)))
    (TagCheckGives (record { 0 = number })) SameError octets (Err r)
