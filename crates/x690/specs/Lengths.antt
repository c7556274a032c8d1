-- Length octets (X.690 8.1.3, 10.1).
use Rattle.std.specs.Prelude.{◌≡◌, ℕ, ◌+◌, ◌^◌, ◌<◌, ◌≤◌, List, [], ◌∷◌, length, ◌⊎◌}
use Rattle.x690.specs.Octets.{IsOctets}
use Rattle.x690.specs.Digits.{base_256_value}

-- the first octet counts the others, up to 126, which are the length in base 256
abbrev pub IsLongLength : List ℕ → ℕ → Type 0
IsLongLength [] n = ⊥
IsLongLength (first ∷ others) n = (1 ≤ length others) × (length others ≤ 126) × (first ≡ 128 + length others) ×
    IsOctets others × (base_256_value others ≡ n) × (n < 2 ^ 64)

-- Length octets as a reader takes them: one octet below 128, or the long form with any number of leading zeros.
abbrev pub IsLength : List ℕ → ℕ → Type 0
IsLength octets n = ((n < 128) × (octets ≡ n ∷ [])) ⊎ IsLongLength octets n

-- Length octets as a writer writes them: of those that say n the ones with the fewest octets (X.690 10.1).
pub record IsStrictLength (octets : List ℕ) (n : ℕ) : Type 0 where
  pub lenient : IsLength octets n
  pub fewest : (others : List ℕ) → IsLength others n → length octets ≤ length others

-- how an element says where its contents end
pub data LengthForm : Type 0 where
  definite : ℕ → LengthForm
  indefinite : LengthForm

-- length octets, or 80 for the indefinite form (X.690 8.1.3.6)
abbrev pub IsLengthForm : List ℕ → LengthForm → Type 0
IsLengthForm octets (definite n) = IsLength octets n
IsLengthForm octets indefinite = octets ≡ 128 ∷ []
