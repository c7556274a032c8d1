-- The texts of times, read from their front.
use Rattle.std.specs.Prelude.{ℕ, ◌≤◌, ◌≡◌, ◌≢◌, ◌⊎◌, Bool, true, false, List, [], ◌∷◌, ◌++◌}
use Rattle.std.specs.Char.{is_ascii_digit}
use Rattle.x690.specs.Sets.{AllIn}
use Rattle.x690.specs.Times.{digits, z_text}
use Rattle.asn1_schema.specs.declared.schema.TimeKind.{TimeKind}
use Rattle.asn1_schema.specs.declared.schema.TimeKind.TheVariants as times
use Rattle.asn1_schema.specs.Rules.{IsFraction}

-- two digits of a number that is at most so much, and then what has this property
abbrev pub Then : ℕ → (List ℕ → Type 0) → List ℕ → Type 0
Then most P text = (n : ℕ) × (rest : List ℕ) × (n ≤ most) × (text ≡ digits 2 n ++ rest) × P rest

-- nothing, and this rest
abbrev pub IsEnd : List ℕ → Type 0
IsEnd text = text ≡ []

abbrev pub IsRest : List ℕ → List ℕ → Type 0
IsRest rest text = text ≡ rest

-- the minutes of a zone, which may be left out where that is allowed
abbrev pub IsMinutes : Bool → List ℕ → Type 0
IsMinutes short text = ((short ≡ true) × IsEnd text) ⊎ Then 99 IsEnd text

-- hours and minutes ahead of UTC, or behind it
abbrev pub IsOffset : Bool → List ℕ → Type 0
IsOffset short text = (sign : ℕ) × (rest : List ℕ) × ((sign ≡ 43) ⊎ (sign ≡ 45)) × (text ≡ sign ∷ rest) ×
    Then 99 (IsMinutes short) rest

-- Z, or such hours and minutes
abbrev pub IsZoneText : Bool → List ℕ → Type 0
IsZoneText short text = (text ≡ z_text) ⊎ IsOffset short text

-- a fraction, which may be none, and a zone, which may be none
abbrev pub IsLocal : List ℕ → Type 0
IsLocal text = IsEnd text ⊎ IsZoneText true text

abbrev pub IsFractionEnd : List ℕ → Type 0
IsFractionEnd text = (fraction zone : List ℕ) × IsFraction fraction × (text ≡ fraction ++ zone) × IsLocal zone

-- seconds, which may be left out, and before them minutes, which may be so too
abbrev pub IsSecondEnd : List ℕ → Type 0
IsSecondEnd text = IsFractionEnd text ⊎ Then 59 IsFractionEnd text

abbrev pub IsMinuteEnd : List ℕ → Type 0
IsMinuteEnd text = IsFractionEnd text ⊎ Then 59 IsSecondEnd text

-- and those of a UTCTime
abbrev pub IsUtcEnd : List ℕ → Type 0
IsUtcEnd text = IsZoneText false text ⊎ Then 59 (IsZoneText false) text

-- month, day and hour, and then what has this property
abbrev pub ThenHour : (List ℕ → Type 0) → List ℕ → Type 0
ThenHour P = Then 12 (Then 31 (Then 23 P))

abbrev pub IsMomentText : TimeKind → List ℕ → Type 0
IsMomentText times.Utc = Then 99 (ThenHour (Then 59 IsUtcEnd))
IsMomentText times.Generalized = Then 99 (Then 99 (ThenHour IsMinuteEnd))

-- some digits in front
abbrev pub IsDigitsBefore : List ℕ → List ℕ → Type 0
IsDigitsBefore text rest = (ds : List ℕ) × (ds ≢ []) × AllIn is_ascii_digit ds × (text ≡ ds ++ rest)

-- a fraction in front, which may be none
abbrev pub IsFractionBefore : List ℕ → List ℕ → Type 0
IsFractionBefore text rest = (fraction : List ℕ) × IsFraction fraction × (text ≡ fraction ++ rest)
