-- Why counting and writing a value are refused.
use Rattle.std.specs.Prelude.{◌≡◌, ◌⊎◌, ℕ, ◌+◌, ◌≤◌, ◌^◌, Bool, true, false, ◌||◌, IsTrue, List, [], ◌++◌, Result, Err}
use Rattle.std.specs.Prelude.{IfErr, MatchResult}
use Rattle.asn1_headers.specs.declared.error.Error.{Error}
use Rattle.asn1_headers.specs.declared.error.Error.TheVariants as errors
use Rattle.asn1_headers.specs.declared.error.SerializeError.{SerializeError}
use Rattle.asn1_headers.specs.Writer.{WriterState, MayRefuse}
use Rattle.asn1_headers.specs.Error.{WithoutIo, tells_of_io, written_refusal}

-- why counting n octets may be refused
abbrev pub MayRefuseCount : Bool → ℕ → Error → Type 0
MayRefuseCount allocates n errors.InvalidLength = 2 ^ 64 ≤ n
MayRefuseCount allocates n errors.OutOfMemory = IsTrue allocates
MayRefuseCount allocates n _ = ⊥

-- a refusal that one of the two has
abbrev pub Either : {E : Type 0} → (E → Type 0) → (E → Type 0) → E → Type 0
Either one other e = one e ⊎ other e

-- Why a writing of n octets may be refused by a value that has refusals of its own: one of these, or as any writing.
abbrev pub Refuses : Bool → ℕ → (SerializeError → Type 0) → SerializeError → Type 0
Refuses allocates n own e = MayRefuse allocates n e ⊎ own e

-- Why counting a value may be refused: its length, want of memory, or what is the value's own.
abbrev pub RefusesCount : Bool → ℕ → (Error → Type 0) → Error → Type 0
RefusesCount allocates n own e = MayRefuseCount allocates n e ⊎ own e

-- the same, where nothing was asked of the writer
abbrev pub RefusesAtOnce : Bool → ℕ → (SerializeError → Type 0) → SerializeError → Type 0
RefusesAtOnce allocates n own e = (MayRefuse allocates n e × (tells_of_io e ≡ false)) ⊎ own e

-- no refusal is the value's own
abbrev pub HasNone : {E : Type 0} → (E → Type 0) → Type 0
HasNone {E} own = (e : E) → own e → ⊥

-- What is written for the values of a type. It has for which of them that is told, the octets of header and contents,
-- and the constructed bit. It has the refusals that are the value's own, and whether memory is allocated for counts and
-- header, for the contents octets, and beside these. They are relations, and not one refusal each. Of a list whose
-- items are refused for several causes one of these comes, and in a set out of memory may come first. What refuses a
-- header leaves open which comes, so that a writer may begin at the end. So a refusal before all others, as that of a
-- class, has a relation of its own.
pub record Writing (S : Type 0) : Type 1 where
  pub tells : S → Type 0
  pub header : S → List ℕ
  pub content : S → List ℕ
  pub constructed : S → Bool
  pub count_refuses : S → Error → Type 0
  pub header_refuses : S → SerializeError → Type 0
  pub content_refuses : S → SerializeError → Type 0
  pub refuses_first : S → SerializeError → Type 0
  pub count_allocates : Bool
  pub content_allocates : Bool
  pub write_allocates : Bool

-- the whole: its octets, the refusals that are the value's own, and whether memory is allocated for it
abbrev pub whole_octets : {S : Type 0} → Writing S → S → List ℕ
whole_octets w x = w.header x ++ w.content x

-- why the header or the contents octets are refused
abbrev pub whole_refuses : {S : Type 0} → Writing S → S → SerializeError → Type 0
whole_refuses w x = Either (w.header_refuses x) (w.content_refuses x)

-- whether writing the whole asks for memory
abbrev pub whole_allocates : {S : Type 0} → Writing S → Bool
whole_allocates w = w.write_allocates || (w.count_allocates || w.content_allocates)

-- neither its counts nor its header nor its contents octets have a refusal of their own
abbrev pub IsWritable : {S : Type 0} → Writing S → S → Type 0
IsWritable w x = HasNone (w.count_refuses x) × HasNone (w.header_refuses x) × HasNone (w.content_refuses x)

-- nothing is told of any value
abbrev pub unspecified : {S : Type 0} → Writing S
unspecified = record {
  tells = λ _. ⊥;
  header = λ _. [];
  content = λ _. [];
  constructed = λ _. false;
  count_refuses = λ _ _. ⊥;
  header_refuses = λ _ _. ⊥;
  content_refuses = λ _ _. ⊥;
  refuses_first = λ _ _. ⊥;
  count_allocates = true;
  content_allocates = true;
  write_allocates = true;
}

-- each value has this header, these contents octets and this constructed bit; only its writer and its length refuse it,
-- and no memory is allocated
abbrev pub plain_writing : {S : Type 0} → (S → List ℕ) → (S → List ℕ) → (S → Bool) → Writing S
plain_writing header content constructed = record {
  tells = λ _. Unit {0};
  header = header;
  content = content;
  constructed = constructed;
  count_refuses = λ _ _. ⊥;
  header_refuses = λ _ _. ⊥;
  content_refuses = λ _ _. ⊥;
  refuses_first = λ _ _. ⊥;
  count_allocates = false;
  content_allocates = false;
  write_allocates = false;
}

-- what holds one item, and nothing else, is written as that
abbrev pub inner_writing : {S T : Type 0} → (T → S) → Writing S → Writing T
inner_writing held w = record {
  tells = λ x. w.tells (held x);
  header = λ x. w.header (held x);
  content = λ x. w.content (held x);
  constructed = λ x. w.constructed (held x);
  count_refuses = λ x. w.count_refuses (held x);
  header_refuses = λ x. w.header_refuses (held x);
  content_refuses = λ x. w.content_refuses (held x);
  refuses_first = λ x. w.refuses_first (held x);
  count_allocates = w.count_allocates;
  content_allocates = w.content_allocates;
  write_allocates = w.write_allocates;
}

-- Two counts are added, or their sum passes what a length may be.
abbrev pub SumsCounts : ℕ → ℕ → Result ℕ Error → Type 0
SumsCounts a b r = MatchResult r (λ n. n ≡ a + b) (λ e. (e ≡ errors.InvalidLength) × (2 ^ 64 ≤ a + b))

-- refused, with the writer as it was: nothing appended, and its mark the same
pub record RefusedAtOnce (e : SerializeError) (old new : WriterState) (answer : Result ℕ SerializeError) : Type 0 where
  pub refused : answer ≡ Err e
  pub kept : new ≡ old

-- Refused by one of the value's own, by its length or when out of memory, with the writer as it was.
-- The refusal is tied by the answer.
abbrev pub IsRefusedAtOnce : Bool → ℕ → (SerializeError → Type 0) → WriterState → WriterState →
    Result ℕ SerializeError → Type 0
IsRefusedAtOnce allocates n own old new answer =
    (e : SerializeError) × RefusesAtOnce allocates n own e × RefusedAtOnce e old new answer

-- A refusal is the writer's, or for want of memory, as of a writing of no octets, whose length fits. Any other refusal
-- left the writer as it was.
abbrev pub KeepsOrMayRefuse : Bool → WriterState → WriterState → Result ℕ SerializeError → Type 0
KeepsOrMayRefuse allocates old new answer = IfErr answer (λ e. MayRefuse allocates 0 e ⊎ (new ≡ old))

-- A refusal of the value's own, from a writing into a vector. The value's own is tied by the one that it comes out as.
abbrev pub IntoVector : (SerializeError → Type 0) → SerializeError → Type 0
IntoVector own f = (e : SerializeError) × own e × WithoutIo e f

-- Why writing into a vector may be refused: its length, want of memory, or what is the value's own.
abbrev pub VectorRefuses : ℕ → (SerializeError → Type 0) → SerializeError → Type 0
VectorRefuses n own f = MayRefuse true n f ⊎ ((e : SerializeError) × own e × WithoutIo e f)

-- The refusals of a header whose contents octets are counted.
-- The refusal of the count is tied by the one that it comes out as.
abbrev pub WrittenRefusal : (Error → Type 0) → SerializeError → Type 0
WrittenRefusal own e = (f : Error) × own f × (e ≡ written_refusal f)
