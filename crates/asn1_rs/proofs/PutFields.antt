-- Fields that are put one after another: what is taken of them, and why they are refused.
use Rattle.std.proofs.Common.{◌≡◌, ◌+◌, ◌≤◌, sym, ap, refl, subst, ◌∙◌, inl, inr, ℕ, true, false, List, [], ◌++◌}
use Rattle.std.proofs.Common.{length, length-append, append-nil, Result, Ok, Err, arith}
use Rattle.std.specs.Prelude.{MatchResult}
use Rattle.std.proofs.lemmas.Bool.{false≢true}
use Rattle.std.proofs.lemmas.List.{append_assoc}
use Rattle.asn1_headers.specs.declared.error.Error.{Error}
use Rattle.asn1_headers.specs.declared.error.SerializeError.{SerializeError}
use Rattle.asn1_headers.specs.Laws.Writing.{MayRefuse_more}
use Rattle.asn1_rs.proofs.Lists.{MayRefuseCount_more}
use Rattle.asn1_rs.proofs.Prepending.{vector_twice}
use Rattle.asn1_rs.specs.Fields.{TakenFields, counted, prepended, goes_back, takes, FieldRefusal, PutsField}
use Rattle.asn1_rs.specs.Fields.{FieldList, no_fields, field, SpecifiesFields, fields_octets, FieldsRefuse}
use Rattle.asn1_rs.specs.Fields.{FieldsRefuseCount}
use Rattle.asn1_rs.specs.Laws.Structs.Writing.{puts_struct}
use Rattle.asn1_rs.specs.Structs.{puts_of, PutsAll, fields_by}
use Rattle.asn1_rs.specs.ToDer.{Writing, Either, RefusesCount, VectorRefuses, whole_octets, whole_refuses}
use Rattle.asn1_headers.specs.Error.{vector_refusal}
use Rattle.asn1_headers.specs.Writer.{MayRefuse}

-- ---- what was taken

takes_none : (s : TakenFields) → s ≡ takes [] s
takes_none (counted n) = ap counted (omega arith)
takes_none (prepended o) = refl

takes_both : (a b : List ℕ) (s : TakenFields) → goes_back s ≡ false → takes b (takes a s) ≡ takes (a ++ b) s
takes_both a b (counted n) f = ap counted (simp length-append (omega arith))
takes_both a b (prepended o) f = absurd (false≢true (sym f))

-- the fields behind one are taken the same way
takes_forward : (a : List ℕ) (s mid : TakenFields) → goes_back s ≡ false → mid ≡ takes a s → goes_back mid ≡ false
takes_forward a (counted n) mid f is = ap goes_back is
takes_forward a (prepended o) mid f is = absurd (false≢true (sym f))

-- ---- refusals, of one field among several

module _ (a b : List ℕ) (count others : Error → Type 0) (own other : SerializeError → Type 0) where
  before_is_less : length a ≤ length (a ++ b)
  before_is_less = simp length-append (omega arith)

  behind_is_less : length b ≤ length (a ++ b)
  behind_is_less = simp length-append (omega arith)

  refused_first : (s : TakenFields) (e : SerializeError) → FieldRefusal s (length a) count own e →
      FieldRefusal s (length (a ++ b)) (Either count others) (Either own other) e
  refused_first (counted n) e (f, inl m, is) =
      let more : n + length a ≤ n + length (a ++ b) = simp length-append (omega arith) in
      (f, inl (MayRefuseCount_more f true _ _ more m), is)
  refused_first (counted n) e (f, inr o, is) = (f, inr (inl o), is)
  refused_first (prepended o) e (inl m) =
      let more : length a + length o ≤ length (a ++ b) + length o = simp length-append (omega arith) in
      inl (MayRefuse_more e true _ _ more m)
  refused_first (prepended o) e (inr (f, w, is)) = inr (f, inl w, is)

  refused_behind : (s : TakenFields) (e : SerializeError) → FieldRefusal (takes a s) (length b) others other e →
      FieldRefusal s (length (a ++ b)) (Either count others) (Either own other) e
  refused_behind (counted n) e (f, inl m, is) =
      let more : n + length a + length b ≤ n + length (a ++ b) = simp length-append (omega arith) in
      (f, inl (MayRefuseCount_more f true _ _ more m), is)
  refused_behind (counted n) e (f, inr o, is) = (f, inr (inr o), is)
  refused_behind (prepended o) e (inl m) =
      let more : length b + length (a ++ o) ≤ length (a ++ b) + length o = simp length-append (omega arith) in
      inl (MayRefuse_more e true _ _ more m)
  refused_behind (prepended o) e (inr (f, w, is)) = inr (f, inr w, is)

-- ---- all fields

abbrev done : Result (Unit {0}) SerializeError
done = Ok tt

done_or_not : (e : SerializeError) → done ≡ Err e → ⊥
done_or_not e is = cc

-- a field, and the others behind it
abbrev Step : {S T : Type 0} → Writing T → (S → T) → FieldList S → S → TakenFields → TakenFields →
    Result (Unit {0}) SerializeError → Type 0
Step w of rest x old new answer = (mid : TakenFields) × (first : Result (Unit {0}) SerializeError) ×
    PutsField w (of x) old mid first × MatchResult first (λ _. PutsAll (puts_of rest x) mid new answer) (λ e. answer ≡ Err e)

module _ {S T : Type 0} (w : Writing T) (of : S → T) (rest : FieldList S) (x : S) (old new : TakenFields)
    (t : w.tells (of x)) where
  step_taken : goes_back old ≡ false → ((mid : TakenFields) → goes_back mid ≡ false →
      PutsAll (puts_of rest x) mid new (Ok tt) → new ≡ takes (fields_octets rest x) mid) → Step w of rest x old new (Ok tt) →
      new ≡ takes (whole_octets w (of x) ++ fields_octets rest x) old
  step_taken f others (mid, Ok u, put, then) =
      others mid (takes_forward (whole_octets w (of x)) old mid f (put.taken t)) then
      ∙ (ap (takes (fields_octets rest x)) (put.taken t)
      ∙ takes_both (whole_octets w (of x)) (fields_octets rest x) old f)
  step_taken f others (mid, Err e, put, then) = absurd (done_or_not e then)

  step_refused : (e : SerializeError) → goes_back old ≡ false → ((mid : TakenFields) → goes_back mid ≡ false →
      PutsAll (puts_of rest x) mid new (Err e) →
      FieldRefusal mid (length (fields_octets rest x)) (FieldsRefuseCount rest x) (FieldsRefuse rest x) e) →
      Step w of rest x old new (Err e) → FieldRefusal old (length (whole_octets w (of x) ++ fields_octets rest x))
      (Either (w.count_refuses (of x)) (FieldsRefuseCount rest x))
      (Either (whole_refuses w (of x)) (FieldsRefuse rest x)) e
  step_refused e f others (mid, Ok u, put, then) =
      refused_behind (whole_octets w (of x)) (fields_octets rest x) (w.count_refuses (of x)) (FieldsRefuseCount rest x)
      (whole_refuses w (of x)) (FieldsRefuse rest x) old e
      (subst (λ s. FieldRefusal s (length (fields_octets rest x)) (FieldsRefuseCount rest x) (FieldsRefuse rest x) e)
      (put.taken t) (others mid (takes_forward (whole_octets w (of x)) old mid f (put.taken t)) then))
  step_refused e f others (mid, Err g, put, then) =
      let same : g ≡ e = cc in
      refused_first (whole_octets w (of x)) (fields_octets rest x) (w.count_refuses (of x)) (FieldsRefuseCount rest x)
      (whole_refuses w (of x)) (FieldsRefuse rest x) old e
      (subst (λ r. FieldRefusal old (length (whole_octets w (of x))) (w.count_refuses (of x)) (whole_refuses w (of x))
      r) same (put.refused t))

  step_uncounted : (e : Error) → Either (w.count_refuses (of x)) (FieldsRefuseCount rest x) e →
      goes_back old ≡ false → ((mid : TakenFields) → goes_back mid ≡ false → FieldsRefuseCount rest x e →
      PutsAll (puts_of rest x) mid new (Ok tt) → ⊥) → Step w of rest x old new (Ok tt) → ⊥
  step_uncounted e (inl o) f others (mid, Ok u, put, then) = false≢true (put.uncounted e t o)
  step_uncounted e (inr o) f others (mid, Ok u, put, then) =
      others mid (takes_forward (whole_octets w (of x)) old mid f (put.taken t)) o then
  step_uncounted e o f others (mid, Err g, put, then) = done_or_not g then

module _ {S : Type 0} where
  pub puts_taken : (fields : FieldList S) (x : S) (old new : TakenFields) → goes_back old ≡ false → SpecifiesFields fields x →
      PutsAll (puts_of fields x) old new (Ok tt) → new ≡ takes (fields_octets fields x) old
  puts_taken no_fields x old new f t p = p.1 ∙ takes_none old
  puts_taken (field w of rest) x old new f t p =
      step_taken w of rest x old new t.0 f (λ mid g q. puts_taken rest x mid new g t.1 q) (p.0 f)

  pub puts_refused : (fields : FieldList S) (x : S) (old new : TakenFields) (e : SerializeError) → goes_back old ≡ false →
      SpecifiesFields fields x → PutsAll (puts_of fields x) old new (Err e) →
      FieldRefusal old (length (fields_octets fields x)) (FieldsRefuseCount fields x) (FieldsRefuse fields x) e
  puts_refused no_fields x old new e f t p = absurd (done_or_not e (sym p.0))
  puts_refused (field w of rest) x old new e f t p =
      step_refused w of rest x old new t.0 e f (λ mid g q. puts_refused rest x mid new e g t.1 q) (p.0 f)

  pub puts_uncounted : (fields : FieldList S) (x : S) (old new : TakenFields) (e : Error) → goes_back old ≡ false →
      SpecifiesFields fields x → FieldsRefuseCount fields x e → PutsAll (puts_of fields x) old new (Ok tt) → ⊥
  puts_uncounted no_fields x old new e f t o p = o
  puts_uncounted (field w of rest) x old new e f t o p =
      step_uncounted w of rest x old new t.0 e o f (λ mid g r q. puts_uncounted rest x mid new e g t.1 r q) (p.0 f)

-- ---- from the first field of a struct to the answer

pub row_counted : {S T : Type 0} (row : T → S) (list : FieldList S) (m : T) (before new : TakenFields)
    (answer : Result (Unit {0}) SerializeError) → before ≡ counted 0 → PutsAll (puts_of list (row m)) before new answer →
    PutsAll (puts_of (fields_by row list) m) (counted 0) new answer
row_counted row list m before new answer is p =
    subst (λ s. PutsAll (puts_of (fields_by row list) m) s new answer) is (puts_struct row list m before new answer p)

pub from_none_counted : (len : ℕ) (counts : Error → Type 0) (f : Error) → RefusesCount true (0 + len) counts f →
    RefusesCount true len counts f
from_none_counted len counts f r = subst (λ n. RefusesCount true n counts f) (omega arith) r

-- what refuses a writing into a vector refuses it without the writer's failure too
pub vector_refuses_again : (e f : SerializeError) (n : ℕ) (own : SerializeError → Type 0) →
    (MayRefuse true n e → MayRefuse true n f) → f ≡ vector_refusal e → VectorRefuses n own e → VectorRefuses n own f
vector_refuses_again e f n own may same (inl m) = inl (may m)
vector_refuses_again e f n own may same (inr (c, o, is)) = inr (c, o, same ∙ (ap vector_refusal is ∙ vector_twice c))
