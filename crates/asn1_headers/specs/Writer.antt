-- What a writing leaves in a writer, and why it is refused.
use Rattle.std.specs.Prelude.{◌≡◌, ◌⊎◌, ℕ, ◌+◌, ◌≤◌, ◌^◌, Bool, true, false, ◌||◌, ◌&&◌, ◌==◌, nat_lt, IsTrue, List}
use Rattle.std.specs.Prelude.{◌++◌, length, Option, Result, Ok, Err, IfOk, IfErr, OnOk, OnErr, IsErrAnd, MatchResult, ⊤}
use Rattle.std.specs.Prelude.{◌≢◌, [], take, drop}
use Rattle.std.specs.List.{FoldsTo}
use Rattle.std.specs.Io.KnownBytes.{Appends}
use Rattle.std.specs.IoError.{error_kind}
use Rattle.std.specs.declared.io.Error.{Error as Failure}
use Rattle.std.specs.declared.io.ErrorKind.TheVariants.{WriteZero}
use Rattle.asn1_headers.specs.declared.writer.Told.{Told}
use Rattle.asn1_headers.specs.declared.error.SerializeError.{SerializeError}
use Rattle.asn1_headers.specs.declared.error.SerializeError.TheVariants as serialize_errors
use Rattle.asn1_headers.specs.Error.{is_io}

-- What contracts see of a writer: the octets that it holds, where it tells them, and whether it has failed.
pub record WriterState : Type 0 where
  pub told : Option (List ℕ)
  pub failed : Bool

-- the writer that is wrapped, and its mark
abbrev pub wrapped_in : {W : Type 0} → Told W → W
wrapped_in t = t.inner

-- whether a call of the writer has failed
abbrev pub mark_of : {W : Type 0} → Told W → Bool
mark_of t = t.is_failed

-- an `Err`, or 0 octets taken of a piece that has some
abbrev pub put_fails : {E : Type 0} → Result ℕ E → List ℕ → Bool
put_fails (Ok n) piece = n == 0 && nat_lt 0 (length piece)
put_fails (Err e) piece = true

-- The known octets grew by a beginning of the octets. The beginning is tied by what the writer held before and holds
-- now; of a writer that does not tell it nothing is said.
pub record GrewByABeginning (old new : Option (List ℕ)) (octets : List ℕ) : Type 0 where
  pub front : List ℕ
  pub rest : List ℕ
  pub parts : octets ≡ front ++ rest
  pub grown : Appends old new front

-- On `Ok` the octets were appended, and their number is the answer; else a beginning of them was.
-- The mark is set exactly where the answer is an `IOError`, and is never taken off. A writer that was marked takes no
-- octets, and for no octets none is asked, so that the answer is no `IOError`.
pub record Wrote (octets : List ℕ) (old new : WriterState) (answer : Result ℕ SerializeError) : Type 0 where
  pub ok : IfOk answer (λ n. Appends old.told new.told octets × (n ≡ length octets))
  pub err : OnErr answer (GrewByABeginning old.told new.told octets)
  pub mark : new.failed ≡ (is_io answer || old.failed)
  pub marked : IsTrue old.failed → OnOk answer (octets ≡ [])
  pub nothing : octets ≡ [] → is_io answer ≡ false

-- Why a writing of n octets may be refused. Its writer failed, n is past what 64 bits hold, or memory is out where it
-- allocates. Of memory it says no more than that the writing is one that allocates.
abbrev pub MayRefuse : Bool → ℕ → SerializeError → Type 0
MayRefuse allocates n (serialize_errors.ASN1Error e) = ⊥
MayRefuse allocates n (serialize_errors.InvalidClass c) = ⊥
MayRefuse allocates n serialize_errors.InvalidLength = 2 ^ 64 ≤ n
MayRefuse allocates n (serialize_errors.IOError e) = ⊤
MayRefuse allocates n serialize_errors.OutOfMemory = IsTrue allocates

-- out of memory, or a length past what 64 bits hold
abbrev pub IsMemoryOrLength : List ℕ → SerializeError → Type 0
IsMemoryOrLength octets e =
    (e ≡ serialize_errors.OutOfMemory) ⊎ ((e ≡ serialize_errors.InvalidLength) × (2 ^ 64 ≤ length octets))

-- the sum, where it fits
abbrev pub SumsWritten : ℕ → ℕ → Result ℕ SerializeError → Type 0
SumsWritten a b r = MatchResult r (λ n. n ≡ a + b) (λ e. (e ≡ serialize_errors.InvalidLength) × (2 ^ 64 ≤ a + b))

-- What a call of `put`, or of a std writer's `write`, may come to: the writer before, the octets, the answer and the
-- writer after.
abbrev pub Calls : Type 0 → Type 1
Calls W = W → List ℕ → Result ℕ Failure → W → Type 0

-- A call of `Told`. A marked one asks nobody, answers an Err of kind `WriteZero`, and stays as it was. Else its answer
-- is that of one call of the wrapped writer, with these octets.
pub record ToldPut {W : Type 0} (writes : Calls W) (old : Told W) (octets : List ℕ) (answer : Result ℕ Failure)
    (new : Told W) : Type 0 where
  pub refused : IsTrue (mark_of old) → IsErrAnd answer (λ e. error_kind e ≡ WriteZero) × (new ≡ old)
  pub asked : mark_of old ≡ false → writes (wrapped_in old) octets answer (wrapped_in new)
  pub mark : mark_of new ≡ (put_fails answer octets || mark_of old)

-- A call of `put` took n octets, at least one, of all that was left.
-- It is tied to the writer by `puts`, which `put` alone ensures.
abbrev pub Took : {W : Type 0} → Calls W → W × List ℕ → ℕ → W × List ℕ → Type 0
Took puts before n after =
    puts before.0 before.1 (Ok n) after.0 × (1 ≤ n) × (n ≤ length before.1) × (after.1 ≡ drop n before.1)

-- Calls of `put` took the piece down to the rest. The numbers that they took are tied by the calls,
-- from the first writer to the last.
abbrev pub TookAllBut : {W : Type 0} → Calls W → List ℕ → W → List ℕ → W → Type 0
TookAllBut puts piece old rest new = (counts : List ℕ) × FoldsTo (Took puts) (old, piece) counts (new, rest)

-- how a call of `put` comes out as a refusal: its failure, and one of kind `WriteZero` where it took none
abbrev pub PutRefusal : Result ℕ Failure → SerializeError → Type 0
PutRefusal (Ok n) (serialize_errors.IOError e) = (n ≡ 0) × (error_kind e ≡ WriteZero)
PutRefusal (Err f) (serialize_errors.IOError e) = e ≡ f
PutRefusal _ _ = ⊥

-- One call of `put`, with octets, is the refusal. Its answer is tied by `puts`,
-- to the writer before it and the one after it.
abbrev pub PutRefused : {W : Type 0} → Calls W → List ℕ → W → W → SerializeError → Type 0
PutRefused puts octets old new e =
    (octets ≢ []) × ((put : Result ℕ Failure) × puts old octets put new × PutRefusal put e)

-- Calls of `put`, each with all that was left, took the whole piece, or the last of them is the refusal. No octets ask
-- for no call. The writer before that last call, and what was left then, are tied by the calls that led there.
abbrev pub PutInCalls : {W : Type 0} → Calls W → List ℕ → W → W → Result ℕ SerializeError → Type 0
PutInCalls {W} puts piece old new answer = MatchResult answer
    (λ n. TookAllBut puts piece old [] new)
    (λ e. (rest : List ℕ) × (before : W) × TookAllBut puts piece old rest before × PutRefused puts rest before new e)

-- one call of `put`: what it took, at least one octet of a writer that was not marked, or a refusal that took none
pub record PutOnce (piece : List ℕ) (old new : WriterState) (answer : Result ℕ SerializeError) : Type 0 where
  pub took : IfOk answer
      (λ n. (1 ≤ n) × (n ≤ length piece) × Appends old.told new.told (take n piece) × (old.failed ≡ false))
  pub kept : OnErr answer (Appends old.told new.told [])
  pub mark : new.failed ≡ (is_io answer || old.failed)
  pub refused : IfErr answer (MayRefuse false 0)
