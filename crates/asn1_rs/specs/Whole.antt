-- Octets that are one value whole, with nothing behind it.
use Rattle.std.specs.Prelude.{◌≡◌, ◌≢◌, ◌⊎◌, Bool, IsTrue, List, [], ℕ, Result, Ok, Err}
use Rattle.asn1_headers.specs.declared.error.Err.{Err as Refusal}
use Rattle.asn1_headers.specs.declared.error.DerConstraint.TheVariants as constraints
use Rattle.asn1_headers.specs.declared.error.Error.{Error}
use Rattle.asn1_headers.specs.declared.error.Error.TheVariants as errors
use Rattle.asn1_rs.specs.FieldReader.{BecomesError}

-- The reader answered this value and left nothing; or its refusal became this error; or it left octets.
abbrev pub TakesWhole : {T : Type 0} → (List ℕ → Result (List ℕ × T) (Refusal Error) → Type 0) → List ℕ →
    Result T Error → Type 0
TakesWhole reads octets (Ok x) = reads octets (Ok ([], x))
TakesWhole {T} reads octets (Err e) =
    ((r : Refusal Error) × reads octets (Err r) × BecomesError r e) ⊎
    ((x : T) × (rest : List ℕ) × reads octets (Ok (rest, x)) × (rest ≢ []) ×
    (e ≡ errors.DerConstraintFailed constraints.TrailingOctets))

-- An Ok is the value of the octets as a word. An Err comes only where they are none, or when out of memory.
abbrev pub IsWhole : {T V : Type 0} → (List ℕ → V → Type 0) → (T → V) → Bool → List ℕ → Result T Error → Type 0
IsWhole Words value allocates octets (Ok x) = Words octets (value x)
IsWhole {T} {V} Words value allocates octets (Err e) =
    (IsTrue allocates × (e ≡ errors.OutOfMemory)) ⊎ ((v : V) → Words octets v → ⊥)
