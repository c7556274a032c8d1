-- Values that are written as their fields, one after another, under one header (X.690 8.9, 8.11).
use Rattle.std.specs.Prelude.{◌≡◌, ℕ, ◌+◌, Bool, true, false, List, [], ◌++◌, length, Result, Ok, Err, IfOk, OnErr}
use Rattle.std.specs.Prelude.{IfErr, IsErr, MatchResult}
use Rattle.x690.specs.Strict.{header_octets}
use Rattle.asn1_headers.specs.declared.error.Error.{Error}
use Rattle.asn1_headers.specs.declared.error.SerializeError.{SerializeError}
use Rattle.asn1_headers.specs.Prepended.{GrewByAnEnd}
use Rattle.asn1_rs.specs.declared.kinds.fields.Fields.{Fields}
use Rattle.asn1_rs.specs.declared.kinds.fields.Taken.TheVariants as taken
use Rattle.asn1_rs.specs.ToDer.{Writing, Either, IntoVector, RefusesCount, VectorRefuses, WrittenRefusal, whole_octets}
use Rattle.asn1_rs.specs.ToDer.{whole_refuses}

-- What was taken of fields so far: the number of their octets, or these before what a buffer held, with all that stands
-- in it.
pub data TakenFields : Type 0 where
  counted : ℕ → TakenFields
  prepended : List ℕ → TakenFields

abbrev pub taken_in : Fields → TakenFields
taken_in x = elim x.taken as (λ _. TakenFields)
    [ taken.Counted n ↦ counted n | taken.Prepended a b ↦ prepended b ]

-- the octets that stand there
abbrev pub collected : TakenFields → List ℕ
collected (counted n) = []
collected (prepended o) = o

-- the fields are taken from the last to the first
abbrev pub goes_back : TakenFields → Bool
goes_back (counted n) = false
goes_back (prepended o) = true

-- the octets of one more field behind those before, or in front of them
abbrev pub takes : List ℕ → TakenFields → TakenFields
takes o (counted n) = counted (n + length o)
takes o (prepended p) = prepended (o ++ p)

-- where octets are put in front, a refusal leaves an end part of those of the field there
abbrev pub LeavesAnEnd : List ℕ → TakenFields → TakenFields → Type 0
LeavesAnEnd o (counted n) new = Unit {0}
LeavesAnEnd o (prepended p) (prepended q) = GrewByAnEnd o p q
LeavesAnEnd o (prepended p) _ = ⊥

-- Why a field of so many octets is refused. Its count is refused, or the sum of the counts is too long. Or it is
-- refused as a writing before the octets of a buffer is.
abbrev pub FieldRefusal : TakenFields → ℕ → (Error → Type 0) → (SerializeError → Type 0) → SerializeError → Type 0
FieldRefusal (counted n) len counts writes e = WrittenRefusal (RefusesCount true (n + len) counts) e
FieldRefusal (prepended o) len counts writes e = VectorRefuses (len + length o) writes e

-- what refuses a field that is written: nothing in counting
abbrev pub WritingRefuses : TakenFields → (SerializeError → Type 0) → SerializeError → Type 0
WritingRefuses (counted n) writes e = ⊥
WritingRefuses (prepended o) writes e = writes e

-- One field was put, or refused.
pub record PutsField {S : Type 0} (w : Writing S) (x : S) (old new : TakenFields)
    (answer : Result (Unit {0}) SerializeError) : Type 0 where
  pub taken : w.tells x → IfOk answer (λ _. new ≡ takes (whole_octets w x) old)
  pub refused : w.tells x → IfErr answer
      (FieldRefusal old (length (whole_octets w x)) (w.count_refuses x) (whole_refuses w x))
  pub left : w.tells x → OnErr answer (LeavesAnEnd (whole_octets w x) old new)
  pub uncounted : (e : Error) → w.tells x → w.count_refuses x e → IsErr answer
  pub accepted : (e : SerializeError) → w.tells x → WritingRefuses old (whole_refuses w x) e → IsErr answer

-- The fields of a type, in their order: how each is written, and how it is had of a value.
pub data FieldList (S : Type 0) : Type 1 where
  no_fields : FieldList S
  field : {T : Type 0} → Writing T → (S → T) → FieldList S → FieldList S

-- what is written is told of each field
abbrev pub SpecifiesFields : {S : Type 0} → FieldList S → S → Type 0
SpecifiesFields no_fields x = Unit {0}
SpecifiesFields (field w of rest) x = w.tells (of x) × SpecifiesFields rest x

-- the encodings of the fields, one after another
abbrev pub fields_octets : {S : Type 0} → FieldList S → S → List ℕ
fields_octets no_fields x = []
fields_octets (field w of rest) x = whole_octets w (of x) ++ fields_octets rest x

-- the refusals of the fields' own, in counts and in writing
abbrev pub FieldsRefuseCount : {S : Type 0} → FieldList S → S → Error → Type 0
FieldsRefuseCount no_fields x e = ⊥
FieldsRefuseCount (field w of rest) x e = Either (w.count_refuses (of x)) (FieldsRefuseCount rest x) e

abbrev pub FieldsRefuse : {S : Type 0} → FieldList S → S → SerializeError → Type 0
FieldsRefuse no_fields x e = ⊥
FieldsRefuse (field w of rest) x e = Either (whole_refuses w (of x)) (FieldsRefuse rest x) e

-- A constructed element of the universal class, with this number, of the fields. Their octets stand in a buffer
-- first.
abbrev pub fields_writing : {S : Type 0} → ℕ → FieldList S → Writing S
fields_writing number fields = record {
  tells = SpecifiesFields fields;
  header = λ x. header_octets 0 true number (length (fields_octets fields x));
  content = fields_octets fields;
  constructed = λ _. true;
  count_refuses = FieldsRefuseCount fields;
  header_refuses = λ x. WrittenRefusal (FieldsRefuseCount fields x);
  content_refuses = λ x. IntoVector (FieldsRefuse fields x);
  refuses_first = λ _ _. ⊥;
  count_allocates = true;
  content_allocates = true;
  write_allocates = true;
}
