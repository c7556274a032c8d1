-- Elements in hand that are read as values of a type.
use Rattle.std.specs.Prelude.{◌≡◌, ◌⊎◌, ℕ, Bool, IsTrue, List, Result, Ok, Err}
use Rattle.x690.specs.Octets.{IsOctets}
use Rattle.x690.specs.Elements.{Parts}
use Rattle.asn1_headers.specs.Answers.{HasPrefix}
use Rattle.asn1_headers.specs.declared.error.Err.{Err as Refusal}
use Rattle.asn1_headers.specs.declared.error.Error.{Error}
use Rattle.asn1_headers.specs.declared.error.Error.TheVariants as errors
use Rattle.asn1_rs.specs.declared.asn1_types.any.Any.{Any}
use Rattle.asn1_rs.specs.Any.{BeginsWithAny, parts_of}
use Rattle.asn1_rs.specs.Checks.{CheckGives}
use Rattle.asn1_rs.specs.FieldReader.{BecomesError}
use Rattle.asn1_rs.specs.Tagged.Explicit.{ExplicitReads}

-- The reader answered this value and left this; or its refusal became this error.
abbrev pub TakesFront : {T : Type 0} → (List ℕ → Result (List ℕ × T) (Refusal Error) → Type 0) → List ℕ → List ℕ →
    Result T Error → Type 0
TakesFront reads octets rest (Ok x) = reads octets (Ok (rest, x))
TakesFront reads octets rest (Err e) = (r : Refusal Error) × reads octets (Err r) × BecomesError r e

-- An Ok is the value of the word before this rest. An Err comes only where no word begins the octets, or when out of
-- memory.
abbrev pub IsFront : {T V : Type 0} → (List ℕ → V → Type 0) → (T → V) → Bool → List ℕ → List ℕ → Result T Error →
    Type 0
IsFront Words value allocates octets rest (Ok x) = HasPrefix Words octets (value x) rest
IsFront {T} {V} Words value allocates octets rest (Err e) = (IsTrue allocates × (e ≡ errors.OutOfMemory)) ⊎
    ((v : V) (others : List ℕ) → HasPrefix Words octets v others → ⊥)

-- It is what the reader may answer to any octets that the element was read from.
abbrev pub IsReadAgain : {T : Type 0} → (List ℕ → Parts → Type 0) →
    (List ℕ → Result (List ℕ × T) (Refusal Error) → Type 0) → Any → Result T Error → Type 0
IsReadAgain ElementOf reads any answer =
    (octets rest : List ℕ) → BeginsWithAny ElementOf octets any rest → TakesFront reads octets rest answer

-- So it is the value of the word that begins these octets, or none does.
abbrev pub IsWordInHand : {T V : Type 0} → (List ℕ → Parts → Type 0) → (List ℕ → V → Type 0) → (T → V) → Bool → Any →
    Result T Error → Type 0
IsWordInHand ElementOf Words value allocates any answer = (octets rest : List ℕ) → IsOctets octets →
    BeginsWithAny ElementOf octets any rest → IsFront Words value allocates octets rest answer

-- What checking and then converting an element may answer.
abbrev pub CheckedThenConverted : {T : Type 0} → CheckGives → (Any → Result T Error → Type 0) → Any → Result T Error →
    Type 0
CheckedThenConverted check convert any (Ok x) = check (parts_of any) (Ok tt) × convert any (Ok x)
CheckedThenConverted check convert any (Err e) =
    check (parts_of any) (Err e) ⊎ (check (parts_of any) (Ok tt) × convert any (Err e))

-- What reading the value in an element under an explicit tag may answer.
abbrev pub DecodesExplicit : {T W : Type 0} → ℕ → ℕ → (W → T) →
    (List ℕ → Result (List ℕ × T) (Refusal Error) → Type 0) → Any → Result W Error → Type 0
DecodesExplicit class number inner reads any (Ok w) =
    ExplicitReads class number reads (λ x y. y ≡ x) (parts_of any) (Ok (inner w))
DecodesExplicit class number inner reads any (Err e) = (r : Refusal Error) ×
    ExplicitReads class number reads (λ x y. y ≡ x) (parts_of any) (Err r) × BecomesError r e
