-- What a set of encoding rules asks of headers (X.690 8.1.3.6, 10.1).
use Rattle.std.specs.Prelude.{Bool, true, false, not, ◌&&◌, nat_le, nat_eq, List, [], ◌∷◌, ℕ}
use Rattle.x690.specs.Digits.{base_128_value, base_256_value}
use Rattle.x690.specs.Identifiers.{Identifier}
use Rattle.x690.specs.Lengths.{LengthForm, definite, indefinite}

-- which identifier octets and length octets a rule allows, of those that a reader takes,
-- and which identifiers may have the indefinite form
pub record Rule : Type 0 where
  pub allows_identifier : List ℕ → Bool
  pub allows_length : List ℕ → Bool
  pub allows_indefinite : Identifier → Bool

-- by BER all of them, and the indefinite form of a constructed element
abbrev pub ber_rule : Rule
ber_rule = record {
  allows_identifier = λ octets. true;
  allows_length = λ octets. true;
  allows_indefinite = λ id. id.constructed;
}

-- Identifier octets are the shortest in low form. In high form they are where the number is 31 at least and the first
-- digit is not 0 (X.690 8.1.2.2, 8.1.2.4.2).
abbrev pub are_shortest_identifier : List ℕ → Bool
are_shortest_identifier [] = false
are_shortest_identifier (first ∷ []) = true
are_shortest_identifier (first ∷ digit ∷ digits) = nat_le 31 (base_128_value (digit ∷ digits)) && not (nat_eq digit 128)

-- Length octets are the shortest in short form. In long form they are where the length is 128 at least and the first
-- octet of its number is not 0 (X.690 10.1).
abbrev pub are_shortest_length : List ℕ → Bool
are_shortest_length [] = false
are_shortest_length (first ∷ []) = true
are_shortest_length (first ∷ octet ∷ octets) = nat_le 128 (base_256_value (octet ∷ octets)) && not (nat_eq octet 0)

-- by DER the shortest alone, and no indefinite form
abbrev pub der_rule : Rule
der_rule = record {
  allows_identifier = are_shortest_identifier;
  allows_length = are_shortest_length;
  allows_indefinite = λ id. false;
}

-- whether these length octets, or 80, are allowed behind the identifier
abbrev pub allows_form : Rule → Identifier → List ℕ → LengthForm → Bool
allows_form rule id octets (definite n) = rule.allows_length octets
allows_form rule id octets indefinite = rule.allows_indefinite id
