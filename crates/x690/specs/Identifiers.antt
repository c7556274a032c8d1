-- Identifier octets (X.690 8.1.2).
use Rattle.std.specs.Prelude.{◌≡◌, ◌≢◌, ℕ, ◌+◌, ◌*◌, ◌^◌, ◌<◌, ◌≤◌, Bool, true, false, List, [], ◌∷◌, ◌++◌, length, ◌⊎◌}
use Rattle.x690.specs.Digits.{base_128_value}

-- what identifier octets say: a class from 0 to 3, whether the element is constructed, and the tag number
pub record Identifier : Type 0 where
  pub class : ℕ
  pub constructed : Bool
  pub number : ℕ
  deriving IsSet as Identifier-set

-- a truth value as a bit
abbrev pub bit : Bool → ℕ
bit true = 1
bit false = 0

-- bit 8 is set on all octets but the last
abbrev pub AreTagDigits : List ℕ → Type 0
AreTagDigits [] = ⊥
AreTagDigits (last ∷ []) = last < 128
AreTagDigits (digit ∷ next ∷ digits) = (128 ≤ digit) × (digit < 256) × AreTagDigits (next ∷ digits)

-- the number stands in the low five bits of the first octet
abbrev pub IsLowForm : ℕ → List ℕ → ℕ → Type 0
IsLowForm low following number = (low ≡ number) × (number ≤ 30) × (following ≡ [])

-- the low five bits announce one to five octets, whose digits in base 128 are the number
abbrev pub IsHighForm : ℕ → List ℕ → ℕ → Type 0
IsHighForm low following number = (low ≡ 31) × AreTagDigits following × (length following ≤ 5) ×
    (base_128_value following ≡ number) × (number < 2 ^ 32)

-- Identifier octets as a reader takes them: the first one has class, constructed bit and five low bits.
abbrev pub IsIdentifier : List ℕ → Identifier → Type 0
IsIdentifier [] id = ⊥
IsIdentifier (first ∷ following) id =
    (low : ℕ) × (id.class < 4) × (low < 32) × (first ≡ 64 * id.class + 32 * bit id.constructed + low) ×
    (IsLowForm low following id.number ⊎ IsHighForm low following id.number)

-- the high form is there for numbers from 31 on alone, and its first digit is not 0
abbrev pub NeedsItsDigits : ℕ → List ℕ → Type 0
NeedsItsDigits number [] = Unit {0}
NeedsItsDigits number (digit ∷ digits) = (31 ≤ number) × (digit ≢ 128)

-- the digits that say the number are no more than it needs
abbrev pub HasNoRedundantDigits : List ℕ → ℕ → Type 0
HasNoRedundantDigits [] number = ⊥
HasNoRedundantDigits (first ∷ following) number = NeedsItsDigits number following

-- Identifier octets as a writer writes them (X.690 8.1.2.2, 8.1.2.4).
abbrev pub IsStrictIdentifier : List ℕ → Identifier → Type 0
IsStrictIdentifier octets id = IsIdentifier octets id × HasNoRedundantDigits octets id.number

-- the octets end within an identifier in high form, which more of them would make whole
pub record IsTruncatedIdentifier (octets : List ℕ) : Type 0 where
  pub more : List ℕ
  pub id : Identifier
  pub some : octets ≢ []
  pub missing : more ≢ []
  pub whole : IsIdentifier (octets ++ more) id
