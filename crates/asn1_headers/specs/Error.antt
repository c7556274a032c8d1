-- Refusals.
use Rattle.std.specs.Prelude.{◌≡◌, ℕ, List, if◌then◌else◌, nat_eq, Bool, true, false, Result, Ok, Err}
use Rattle.asn1_headers.specs.Message.{message_text}
use Rattle.asn1_headers.specs.declared.tag.Tag.{Tag}
use Rattle.asn1_headers.specs.declared.error.Err.{Err as Refusal}
use Rattle.asn1_headers.specs.declared.error.Err.TheVariants.{Incomplete as truncated, Error as refused, Failure as failed}
use Rattle.asn1_headers.specs.declared.error.Needed.{Needed}
use Rattle.asn1_headers.specs.declared.error.Needed.TheVariants.{Unknown, Size}
use Rattle.asn1_headers.specs.declared.error.Error.{Error}
use Rattle.asn1_headers.specs.declared.error.Error.TheVariants as errors
use Rattle.asn1_headers.specs.declared.error.SerializeError.{SerializeError}
use Rattle.asn1_headers.specs.declared.error.SerializeError.TheVariants as serialize_errors

-- how many octets a refusal says are missing, where 0 stands for a number that is not known
abbrev pub needed_of : ℕ → Needed
needed_of n = if nat_eq n 0 then Unknown else Size n

-- the same variant, with its error changed as the relation says
abbrev pub Converted : {E F : Type 0} → (E → F → Type 0) → Refusal E → Refusal F → Type 0
Converted gives (truncated n) r = r ≡ truncated n
Converted {E} {F} gives (refused e) r = (f : F) × gives e f × (r ≡ refused f)
Converted {E} {F} gives (failed e) r = (f : F) × gives e f × (r ≡ failed f)

-- the fact holds of the error that is held, where one is
abbrev pub ErrorIs : {E : Type 0} → (E → Type 0) → Refusal E → Type 0
ErrorIs P (truncated n) = Unit {0}
ErrorIs P (refused e) = P e
ErrorIs P (failed e) = P e

-- octets are missing
abbrev pub IsTruncated : {E : Type 0} → Refusal E → Type 0
IsTruncated (truncated n) = Unit {0}
IsTruncated (refused e) = ⊥
IsTruncated (failed e) = ⊥

-- the refusal `InvalidValue` of this tag, with a text of which the fact holds
abbrev pub IsInvalidValueOf : Tag → (List ℕ → Type 0) → Error → Type 0
IsInvalidValueOf tag says (errors.InvalidValue t msg) = (t ≡ tag) × says (message_text msg)
IsInvalidValueOf tag says _ = ⊥

-- the refusal `InvalidValue` of this tag, with this text
abbrev pub IsInvalidValue : Tag → List ℕ → Error → Type 0
IsInvalidValue tag text = IsInvalidValueOf tag (λ kept. kept ≡ text)

-- the error that is held, or that octets are missing
abbrev pub FlattenedTo : {E F : Type 0} → (E → F → Type 0) → (Error → F → Type 0) → Refusal E → F → Type 0
FlattenedTo held missing (truncated n) f = missing (errors.Incomplete n) f
FlattenedTo held missing (refused e) f = held e f
FlattenedTo held missing (failed e) f = held e f

-- the answer is an `IOError`
abbrev pub is_io : {A : Type 0} → Result A SerializeError → Bool
is_io (Ok n) = false
is_io (Err (serialize_errors.ASN1Error e)) = false
is_io (Err (serialize_errors.InvalidClass c)) = false
is_io (Err serialize_errors.InvalidLength) = false
is_io (Err (serialize_errors.IOError e)) = true
is_io (Err serialize_errors.OutOfMemory) = false

-- whether the refusal is one of the writer
abbrev pub tells_of_io : SerializeError → Bool
tells_of_io e = is_io {A = ℕ} (Err e)

-- how a refused count comes out of a writing
abbrev pub written_refusal : Error → SerializeError
written_refusal errors.InvalidLength = serialize_errors.InvalidLength
written_refusal errors.OutOfMemory = serialize_errors.OutOfMemory
written_refusal e = serialize_errors.ASN1Error e

-- how a refused writing into a vector comes out: out of memory in the place of the writer's failure
abbrev pub vector_refusal : SerializeError → SerializeError
vector_refusal (serialize_errors.IOError e) = serialize_errors.OutOfMemory
vector_refusal e = e

-- the second refusal is the first, as writing into a vector tells it
abbrev pub WithoutIo : SerializeError → SerializeError → Type 0
WithoutIo e f = f ≡ vector_refusal e
