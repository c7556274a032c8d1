-- Codes of characters in octets: UTF-16 and UCS-4, the highest octet first (X.690 8.23.7, 8.23.8; X.680 41).
use Rattle.std.specs.Prelude.{◌≡◌, ℕ, ◌*◌, ◌/◌, ◌%◌, ◌≤◌, true, List, [], ◌∷◌, ◌++◌, length, flat_map, encode_utf8}
use Rattle.std.specs.Char.{IsScalar}
use Rattle.std.specs.Char.Escape.{encode_utf16}
use Rattle.std.specs.Str.{all_scalars}
use Rattle.x690.specs.Octets.{IsOctets, BeginsWith}

-- a unit of UTF-16
abbrev pub unit_octets : ℕ → List ℕ
unit_octets unit = (unit / 256) ∷ (unit % 256) ∷ []

-- a character in UTF-16: one unit, or the two of a pair (8.23.8)
abbrev pub utf16_octets_of : ℕ → List ℕ
utf16_octets_of c = flat_map unit_octets (encode_utf16 c)

-- a character in four octets (8.23.7)
abbrev pub ucs4_octets_of : ℕ → List ℕ
ucs4_octets_of c = (c / 16777216) ∷ (c / 65536 % 256) ∷ (c / 256 % 256) ∷ (c % 256) ∷ []

-- a text: the octets of its characters, in their order
abbrev pub code_of : (ℕ → List ℕ) → List ℕ → List ℕ
code_of octets_of cs = flat_map octets_of cs

-- the text in UTF-16
abbrev pub utf16_octets : List ℕ → List ℕ
utf16_octets cs = code_of utf16_octets_of cs

-- the text in UCS-4
abbrev pub ucs4_octets : List ℕ → List ℕ
ucs4_octets cs = code_of ucs4_octets_of cs

-- the octets are these characters in the code
abbrev pub Codes : (List ℕ → List ℕ) → List ℕ → List ℕ → Type 0
Codes code octets cs = (all_scalars cs ≡ true) × (octets ≡ code cs)

-- A code of texts in octets, which tells texts apart.
pub record IsCode (code : List ℕ → List ℕ) : Type 0 where
  pub one : (cs ds : List ℕ) → all_scalars cs ≡ true → all_scalars ds ≡ true → code cs ≡ code ds → cs ≡ ds
  pub octets : (cs : List ℕ) → all_scalars cs ≡ true → IsOctets (code cs)

-- the octets of a character, and then the rest
pub record BeginsWithCharacter (octets_of : ℕ → List ℕ) (octets : List ℕ) (c : ℕ) (rest : List ℕ) : Type 0 where
  pub scalar : IsScalar c
  pub is : BeginsWith octets (octets_of c) rest

-- A code of characters in octets, four at most. No character's octets begin another's,
-- and in UTF-8 a character has at most half as many octets again.
pub record IsCharacterCode (octets_of : ℕ → List ℕ) : Type 0 where
  pub one : (c d : ℕ) (rest tail : List ℕ) → IsScalar c → IsScalar d → octets_of c ++ rest ≡ octets_of d ++ tail →
      (c ≡ d) × (rest ≡ tail)
  pub octets : (c : ℕ) → IsScalar c → IsOctets (octets_of c)
  pub few : (c : ℕ) → length (octets_of c) ≤ 4
  pub utf8 : (c : ℕ) → 2 * length (encode_utf8 c) ≤ 3 * length (octets_of c)
