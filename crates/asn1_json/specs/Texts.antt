-- The characters of strings.
use Rattle.std.specs.Prelude.{ℕ, ◌+◌, ◌*◌, List, [], ◌∷◌, map, if◌then◌else◌, encode_utf8_all}
use lib.Utf8.{scalar}
use Rattle.std.specs.Char.Utf16.{utf16_lossy_chars}
use Rattle.std.specs.Str.Lossy.{utf8_lossy}
use Rattle.asn1_schema.specs.declared.schema.TextKind.{TextKind}
use Rattle.asn1_schema.specs.declared.schema.TextKind.TheVariants as texts

-- the units of UTF-16 that octets say, two each (X.690 8.23.8); an octet that is left says none
abbrev pub units_in : List ℕ → List ℕ
units_in [] = []
units_in (a ∷ []) = []
units_in (a ∷ b ∷ os) = (256 * a + b) ∷ units_in os

-- the numbers that octets say, four each (8.23.7); octets that are left say none
abbrev pub codes_in : List ℕ → List ℕ
codes_in [] = []
codes_in (a ∷ []) = []
codes_in (a ∷ b ∷ []) = []
codes_in (a ∷ b ∷ c ∷ []) = []
codes_in (a ∷ b ∷ c ∷ d ∷ os) = (16777216 * a + 65536 * b + 256 * c + d) ∷ codes_in os

-- a number that is no character's is U+FFFD
abbrev pub character_of : ℕ → ℕ
character_of code = if scalar code then code else 0xFFFD

-- The octets of a character string in UTF-8. What is no character of UTF-8, BMPString or UniversalString is U+FFFD. Of
-- all other types each octet is the character with its number.
abbrev pub text_of : TextKind → List ℕ → List ℕ
text_of texts.Utf8 o = utf8_lossy o
text_of texts.Bmp o = encode_utf8_all (utf16_lossy_chars (units_in o))
text_of texts.Universal o = encode_utf8_all (map character_of (codes_in o))
text_of _ o = encode_utf8_all o
