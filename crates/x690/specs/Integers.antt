-- Contents octets of integers (X.690 8.3).
use Rattle.std.specs.Prelude.{◌≡◌, ◌≢◌, ℕ, ◌<◌, ◌≤◌, List, [], ◌∷◌, ℤ, nat_lt, if◌then◌else◌}
use Rattle.std.specs.Int.Digits.{digits_of}
use Rattle.x690.specs.Octets.{IsOctets}
use Rattle.x690.specs.Digits.{twos_complement_value}

-- the first nine bits are all zero
abbrev pub HasRedundantZeros : List ℕ → Type 0
HasRedundantZeros (first ∷ second ∷ others) = (first ≡ 0) × (second < 128)
HasRedundantZeros _ = ⊥

-- the first nine bits are all one
abbrev pub HasRedundantOnes : List ℕ → Type 0
HasRedundantOnes (first ∷ second ∷ others) = (first ≡ 255) × (128 ≤ second)
HasRedundantOnes _ = ⊥

-- there is an octet, and none that could be left out (X.690 8.3.2)
abbrev pub IsShortestInteger : List ℕ → Type 0
IsShortestInteger content = (content ≢ []) × (¬ HasRedundantZeros content) × (¬ HasRedundantOnes content)

-- the strict contents octets of an integer: shortest, and in two's complement (X.690 8.3.2, 8.3.3)
pub record IsIntegerContent (n : ℤ) (content : List ℕ) : Type 0 where
  pub octets : IsOctets content
  pub shortest : IsShortestInteger content
  pub value : twos_complement_value content ≡ n

-- digits in base 256, with 00 in front where there is none and where the first one would be read as a sign
abbrev pub with_sign_octet : List ℕ → List ℕ
with_sign_octet [] = 0 ∷ []
with_sign_octet (first ∷ others) = if nat_lt first 128 then first ∷ others else 0 ∷ first ∷ others

-- the strict contents octets of a natural number
unfoldable pub unsigned_octets : ℕ → List ℕ
unsigned_octets n = with_sign_octet (digits_of 256 n)

-- nothing, or a first octet that is not 0
abbrev pub HasNoLeadingZero : List ℕ → Type 0
HasNoLeadingZero [] = Unit {0}
HasNoLeadingZero (first ∷ others) = first ≢ 0
