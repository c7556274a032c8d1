-- Taking items off the front of octets, one after the other.
use Rattle.std.specs.Prelude.{ℕ, ◌≡◌, ◌≢◌, ◌<◌, ◌≤◌, List, [], length, Result, Ok, Err, Option, Some, None}
use Rattle.asn1_headers.specs.Error.{FlattenedTo}
use Rattle.asn1_headers.specs.declared.error.Err.{Err as Refusal}
use Rattle.asn1_headers.specs.declared.error.Error.{Error}
use Rattle.asn1_headers.specs.declared.error.Error.TheVariants as errors

-- The error that a reader's answer ends a walk with. It is the item's own refusal, or that octets of it are missing. It
-- is `InvalidLength` where as much is given back as there was, or more.
abbrev pub EndsItem : {T E : Type 0} → (Error → E → Type 0) → List ℕ → Result (List ℕ × T) (Refusal E) → E → Type 0
EndsItem from left (Ok read) e = (length left ≤ length read.0) × from errors.InvalidLength e
EndsItem from left (Err r) e = FlattenedTo (λ x y. y ≡ x) from r e

-- What a call of `next` answers where octets are left, and what is left then. It is the next item, with fewer octets
-- than before; or its refusal, and nothing is left; or nothing, at the end alone.
abbrev pub TakesItem : {T E : Type 0} → (List ℕ → Result (List ℕ × T) (Refusal E) → Type 0) → (Error → E → Type 0) →
    List ℕ → Option (Result T E) → List ℕ → Type 0
TakesItem reads from left None after = (left ≡ []) × (after ≡ [])
TakesItem reads from left (Some (Ok item)) after =
    (left ≢ []) × reads left (Ok (after, item)) × (length after < length left)
TakesItem {T} {E} reads from left (Some (Err e)) after = (left ≢ []) ×
    ((answer : Result (List ℕ × T) (Refusal E)) × reads left answer × EndsItem from left answer e) × (after ≡ [])
