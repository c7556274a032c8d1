-- The strict identifier octets and length octets, as functions of what they say.
use Rattle.std.specs.Prelude.{ℕ, ◌+◌, ◌*◌, ◌/◌, ◌%◌, Bool, List, [], ◌∷◌, ◌++◌, length, map, if◌then◌else◌, nat_lt}
use Rattle.std.specs.Int.Digits.{digits_of}
use Rattle.x690.specs.Identifiers.{Identifier, bit}
use Rattle.x690.specs.Lengths.{LengthForm, definite, indefinite}
use Rattle.x690.specs.Elements.{Parts}

-- with bit 8 set
abbrev pub with_bit_8 : ℕ → ℕ
with_bit_8 digit = 128 + digit

-- the digits of a tag number in base 128, bit 8 set on all but the last
abbrev pub tag_digits : ℕ → List ℕ
tag_digits number = map with_bit_8 (digits_of 128 (number / 128)) ++ (number % 128) ∷ []

-- the strict identifier octets: the low form where the number fits it, else the high form with the fewest digits
unfoldable pub identifier_octets : Identifier → List ℕ
identifier_octets id =
    let lead = 64 * id.class + 32 * bit id.constructed in
    if nat_lt id.number 31 then (lead + id.number) ∷ [] else (lead + 31) ∷ tag_digits id.number

-- the strict length octets: the short form where the number fits it, else the long form with the fewest digits
unfoldable pub length_octets : ℕ → List ℕ
length_octets n = if nat_lt n 128 then n ∷ [] else (128 + length (digits_of 256 n)) ∷ digits_of 256 n

-- 80 for the indefinite form
abbrev pub length_form_octets : LengthForm → List ℕ
length_form_octets (definite n) = length_octets n
length_form_octets indefinite = 128 ∷ []

-- the strict header of an element whose contents are n octets
unfoldable pub header_octets : ℕ → Bool → ℕ → ℕ → List ℕ
header_octets class constructed number n =
    identifier_octets (record { class = class; constructed = constructed; number = number }) ++ length_octets n

-- the strict element, as a function
abbrev pub element_octets : Identifier → List ℕ → List ℕ
element_octets i c = header_octets i.class i.constructed i.number (length c) ++ c

-- the parts of an element of definite length
abbrev pub definite_parts : Identifier → List ℕ → Parts
definite_parts i c = record { id = i; form = definite (length c); content = c }
