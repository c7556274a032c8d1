-- What is put before the octets of a buffer, and what a refusal leaves there.
use Rattle.std.specs.Prelude.{◌≡◌, ◌⊎◌, ◌<◌, ◌≤◌, ◌^◌, ◌+◌, ℕ, ◌++◌, List, length, true, false}
use Rattle.std.specs.Prelude.{Result, Ok, Err, IfOk, OnErr, IfErr, MatchResult}
use Rattle.asn1_headers.specs.declared.error.SerializeError.{SerializeError}
use Rattle.asn1_headers.specs.declared.error.SerializeError.TheVariants as serialize_errors
use Rattle.asn1_headers.specs.declared.buffer.NoRoom.{NoRoom}
use Rattle.asn1_headers.specs.declared.buffer.NoRoom.TheVariants as no_room
use Rattle.asn1_headers.specs.Error.{tells_of_io}
use Rattle.asn1_headers.specs.Writer.{MayRefuse}

-- An end part of the octets was put before the old ones. It is tied by what the buffer held before and holds now.
pub record GrewByAnEnd (octets old new : List ℕ) : Type 0 where
  pub front : List ℕ
  pub rest : List ℕ
  pub parts : octets ≡ front ++ rest
  pub grown : new ≡ rest ++ old

-- On `Ok` the octets stand in front, and their number is the answer; else an end part of them. No writer is asked, so
-- none fails.
pub record Prepended (octets old new : List ℕ) (answer : Result ℕ SerializeError) : Type 0 where
  pub ok : IfOk answer (λ n. (new ≡ octets ++ old) × (n ≡ length octets))
  pub err : OnErr answer (GrewByAnEnd octets old new)
  pub memory : IfErr answer (λ e. tells_of_io e ≡ false)

-- Why so many octets do not stand in a buffer: their number passes what 64 bits hold, or else memory is out.
abbrev pub IsLengthOrMemory : ℕ → SerializeError → Type 0
IsLengthOrMemory n e =
    ((e ≡ serialize_errors.InvalidLength) × (2 ^ 64 ≤ n)) ⊎ ((e ≡ serialize_errors.OutOfMemory) × (n < 2 ^ 64))

-- what a caller is told where octets find no room
abbrev pub no_room_refusal : NoRoom → SerializeError
no_room_refusal no_room.PastUsize = serialize_errors.InvalidLength
no_room_refusal no_room.OutOfMemory = serialize_errors.OutOfMemory

abbrev pub answer_of : Result ℕ NoRoom → Result ℕ SerializeError
answer_of (Ok n) = Ok n
answer_of (Err e) = Err (no_room_refusal e)

-- The octets stand in front, and their number is the answer; or all is as it was, for want of room.
abbrev pub IsPut : List ℕ → List ℕ → List ℕ → Result ℕ NoRoom → Type 0
IsPut octets old new answer = MatchResult answer (λ n. (new ≡ octets ++ old) × (n ≡ length octets))
    (λ e. (new ≡ old) × IsLengthOrMemory (length octets + length old) (no_room_refusal e)
    × MayRefuse true (length octets + length old) (no_room_refusal e))
