-- One writing after another.
use Rattle.std.proofs.Common.{◌≡◌, inl, inr, ℕ, Bool, true, false, ◌||◌, List, [], ◌++◌, length, ◌≤◌, ◌+◌, length-append}
use Rattle.std.proofs.Common.{IfErr, IsTrue, MatchResult, ◌^◌, ◌<◌, IfOk, Result, Ok, Err, refl, sym, ap, ◌∙◌, arith}
use Rattle.std.proofs.lemmas.Bool.{false≢true}
use Rattle.std.specs.Io.KnownBytes.{Appends}
use Rattle.std.specs.declared.vec.Vec.{Vec}
use Rattle.asn1_headers.specs.Writer.{WriterState, Wrote, IsMemoryOrLength, MayRefuse, SumsWritten}
use Rattle.asn1_headers.specs.Error.{is_io, WithoutIo, written_refusal, tells_of_io, vector_refusal}
use Rattle.asn1_rs.specs.ToDer.{SumsCounts, MayRefuseCount, Refuses, RefusesCount, RefusesAtOnce, IsRefusedAtOnce}
use Rattle.asn1_rs.specs.ToDer.{RefusedAtOnce, Either, HasNone, IntoVector, IsWritable, VectorRefuses, WrittenRefusal}
use Rattle.asn1_rs.specs.ToDer.{KeepsOrMayRefuse, Writing, whole_octets, whole_refuses, whole_allocates}
use Rattle.asn1_rs.specs.Tagged.Writing.{UnderClass}
use Rattle.std.specs.Prelude.{IsErr}
use Rattle.asn1_headers.specs.Laws.Writing.{Appends_none, MayRefuse_more, MayRefuse_either, MayRefuse_other}
use Rattle.asn1_headers.specs.declared.error.Error.{Error}
use Rattle.asn1_headers.specs.declared.error.Error.TheVariants as errors
use Rattle.asn1_headers.specs.declared.error.SerializeError.TheVariants as serialize_errors
use Rattle.asn1_headers.specs.declared.error.SerializeError.{SerializeError}

pub SumsCounts_count : (xs ys : List ℕ) (n m : ℕ) (r : Result ℕ Error) → n ≡ length xs → m ≡ length ys →
    SumsCounts n m r → IfOk r (λ k. k ≡ length (xs ++ ys))
SumsCounts_count xs ys n m (Ok k) p q s = simp length-append (omega (arith, s))
SumsCounts_count xs ys n m (Err e) p q s = tt

pub SumsCounts_refused : (allocates : Bool) (xs ys : List ℕ) (n m : ℕ) (r : Result ℕ Error) → n ≡ length xs →
    m ≡ length ys → SumsCounts n m r → IfErr r (MayRefuseCount allocates (length (xs ++ ys)))
SumsCounts_refused allocates xs ys n m (Ok k) p q s = tt
SumsCounts_refused allocates xs ys n m (Err e) p q s = rw s.0 (simp length-append (omega (arith, s.1)))

-- A writing whose length fits and whose writer is not marked is done, except when out of memory.
pub writing_done : (r : Result ℕ SerializeError) (allocates : Bool) (o : List ℕ) (old new : WriterState) →
    Wrote o old new r → IfErr r (MayRefuse allocates (length o)) → length o < 2 ^ 64 → new.failed ≡ false
    → MatchResult r (λ n. Appends old.told new.told o × (n ≡ length o))
    (λ e. (e ≡ serialize_errors.OutOfMemory) × IsTrue allocates)
writing_done (Ok n) allocates o old new w m fits free = w.ok
writing_done (Err (serialize_errors.ASN1Error e)) allocates o old new w m fits free = absurd m
writing_done (Err (serialize_errors.InvalidClass c)) allocates o old new w m fits free = absurd m
writing_done (Err serialize_errors.InvalidLength) allocates o old new w m fits free = absurd (omega arith)
writing_done (Err (serialize_errors.IOError e)) allocates o old new w m fits free = let k : new.failed ≡ true =
    w.mark in cc
writing_done (Err serialize_errors.OutOfMemory) allocates o old new w m fits free = (refl, m)

-- a writing that has no refusals of its own, or is not refused by them
pub only_may : (r : Result ℕ SerializeError) (allocates : Bool) (n : ℕ) (own : SerializeError → Type 0) →
    IfErr r (MayRefuse allocates n) → IfErr r (Refuses allocates n own)
only_may (Ok k) allocates n own h = tt
only_may (Err e) allocates n own h = inl h

pub only_may_count : (r : Result ℕ Error) (allocates : Bool) (n : ℕ) (own : Error → Type 0) →
    IfErr r (MayRefuseCount allocates n) → IfErr r (RefusesCount allocates n own)
only_may_count (Ok k) allocates n own h = tt
only_may_count (Err e) allocates n own h = inl h

pub only_put : (r : Result ℕ SerializeError) (allocates : Bool) (n : ℕ) (own : SerializeError → Type 0) →
    IfErr r (MayRefuse false 0) → IfErr r (Refuses allocates n own)
only_put (Ok k) allocates n own h = tt
only_put (Err (serialize_errors.ASN1Error e)) allocates n own h = absurd h
only_put (Err (serialize_errors.InvalidClass c)) allocates n own h = absurd h
only_put (Err serialize_errors.InvalidLength) allocates n own h = absurd (omega (arith, h))
only_put (Err (serialize_errors.IOError e)) allocates n own h = inl tt
only_put (Err serialize_errors.OutOfMemory) allocates n own h = cc

pub plain_refusal : (r : Result ℕ SerializeError) (allocates : Bool) (n : ℕ) (one other : SerializeError → Type 0) →
    HasNone one → HasNone other → IfErr r (Refuses allocates n (Either one other)) → IfErr r (MayRefuse allocates n)
plain_refusal (Ok k) allocates n one other a b h = tt
plain_refusal (Err e) allocates n one other a b (inl m) = m
plain_refusal (Err e) allocates n one other a b (inr (inl o)) = absurd (a e o)
plain_refusal (Err e) allocates n one other a b (inr (inr o)) = absurd (b e o)

-- a refusal of the first of two parts, and of the second
pub refuses_first : (e : SerializeError) (allocates gives : Bool) (n : ℕ) (one other : SerializeError → Type 0) →
    Refuses allocates n one e → Refuses (allocates || gives) n (Either one other) e
refuses_first e allocates gives n one other (inl m) = inl (MayRefuse_either e allocates gives n m)
refuses_first e allocates gives n one other (inr o) = inr (inl o)

pub refuses_second : (e : SerializeError) (allocates gives : Bool) (m n : ℕ) (one other : SerializeError → Type 0) →
    m ≤ n →
    Refuses gives m other e → Refuses (allocates || gives) n (Either one other) e
refuses_second e allocates gives m n one other l (inl h) =
    inl (MayRefuse_other e allocates gives n (MayRefuse_more e gives m n l h))
refuses_second e allocates gives m n one other l (inr o) = inr (inr o)

-- a writing whose own memory is counted too
pub refuses_wider : (e : SerializeError) (write allocates : Bool) (n : ℕ) (own : SerializeError → Type 0) →
    Refuses allocates n own e → Refuses (write || allocates) n own e
refuses_wider e write allocates n own (inl m) = inl (MayRefuse_other e write allocates n m)
refuses_wider e write allocates n own (inr o) = inr o

-- a header that was refused at once refuses the whole at once
pub header_at_once : (write allocates gives : Bool) (n : ℕ) (one other : SerializeError → Type 0)
    (old new : WriterState)
    (r : Result ℕ SerializeError) → IsRefusedAtOnce allocates n one old new r →
    IsRefusedAtOnce (write || (allocates || gives)) n (Either one other) old new r
header_at_once write allocates gives n one other old new r at = (at.0, of at.1, at.2)
  where
    of : RefusesAtOnce allocates n one at.0 → RefusesAtOnce (write || (allocates || gives)) n (Either one other) at.0
    of (inl m) =
        inl (MayRefuse_other at.0 write (allocates || gives) n (MayRefuse_either at.0 allocates gives n m.0), m.1)
    of (inr o) = inr (inl o)

-- no value has a refusal of neither
pub neither_own : {E : Type 0} (e : E) → Either (λ _. ⊥) (λ _. ⊥) e → ⊥
neither_own e (inl o) = o
neither_own e (inr o) = o

-- what is refused at once is not Ok
pub not_refused : (allocates : Bool) (n : ℕ) (own : SerializeError → Type 0) (old new : WriterState) (k : ℕ) →
    IsRefusedAtOnce allocates n own old new (Ok k) → ⊥
not_refused allocates n own old new k r = let e = r.2.refused in cc

-- the refusal of a writing into a vector
pub vector_refuses : (e f : SerializeError) (allocates : Bool) (n : ℕ) (own : SerializeError → Type 0) →
    ((n : ℕ) (allocates : Bool) → MayRefuse allocates n e → MayRefuse true n f) → WithoutIo e f →
    Refuses allocates n own e →
    VectorRefuses n own f
vector_refuses e f allocates n own may same (inl m) = inl (may n allocates m)
vector_refuses e f allocates n own may same (inr o) = inr (e, o, same)

-- how a refused count comes out
pub written_may : (e : Error) (allocates : Bool) (m n : ℕ) → m ≤ n → MayRefuseCount allocates m e →
    MayRefuse allocates n (written_refusal e) × (tells_of_io (written_refusal e) ≡ false)
written_may errors.InvalidLength allocates m n l h = (omega arith, refl)
written_may errors.OutOfMemory allocates m n l h = (h, refl)
written_may _ allocates m n l h = absurd h

-- A header is written of contents octets that were counted.
module _ (allocates : Bool) (header content : List ℕ) (own : Error → Type 0) where
  abbrev m : ℕ
  m = length content

  abbrev n : ℕ
  n = length (header ++ content)

  shorter : m ≤ n
  shorter = simp length-append (omega arith)

  header_refusal : (c : Error) → RefusesCount allocates m own c →
      RefusesAtOnce allocates n (WrittenRefusal own) (written_refusal c)
  header_refusal c (inl h) = inl (written_may c allocates m n shorter h)
  header_refusal c (inr o) = inr (c, o, refl)

  at_once_refused : (e : SerializeError) → RefusesAtOnce allocates n (WrittenRefusal own) e →
      Refuses allocates n (WrittenRefusal own) e
  at_once_refused e (inl h) = inl h.0
  at_once_refused e (inr o) = inr o

  pub counted_refused : (counted : Result ℕ Error) (r : Result ℕ SerializeError) (old new : WriterState) →
      IfErr counted (RefusesCount allocates m own) →
      (IfErr counted (MayRefuseCount allocates m) → IfErr r (MayRefuse allocates n)) →
      IfErr counted (λ e. RefusedAtOnce (written_refusal e) old new r) →
      IfErr r (Refuses allocates n (WrittenRefusal own))
  counted_refused (Ok k) r old new h put at = only_may r allocates n (WrittenRefusal own) (put tt)
  counted_refused (Err c) r old new h put at = rw at.refused (at_once_refused (written_refusal c) (header_refusal c h))

  pub counted_at_once : (counted : Result ℕ Error) (r : Result ℕ SerializeError) (old new : WriterState) →
      IfErr counted (RefusesCount allocates m own) → ((e : Error) → own e → IsErr counted) →
      IfErr counted (λ e. RefusedAtOnce (written_refusal e) old new r) → (e : SerializeError) → WrittenRefusal own e →
      IsRefusedAtOnce allocates n (WrittenRefusal own) old new r
  counted_at_once (Ok k) r old new h none at e o = absurd (false≢true (none o.0 o.1))
  counted_at_once (Err c) r old new h none at e o = (written_refusal c, header_refusal c h, at)

-- an element is counted whose contents octets were counted
pub element_refused : (allocates : Bool) (m n : ℕ) (own : Error → Type 0) (counted r : Result ℕ Error) →
    IfErr counted (RefusesCount allocates m own) →
    (IfErr counted (MayRefuseCount allocates m) → IfErr r (MayRefuseCount allocates n)) →
    ((e : Error) → MayRefuseCount allocates m e → MayRefuseCount allocates n e) → IfErr counted (λ e. r ≡ Err e) →
    IfErr r (RefusesCount allocates n own)
element_refused allocates m n own (Ok k) r h sum more at = only_may_count r allocates n own (sum tt)
element_refused allocates m n own (Err c) r (inl h) sum more at = rw at (inl (more c h))
element_refused allocates m n own (Err c) r (inr o) sum more at = rw at (inr o)

pub element_accepted : (own : Error → Type 0) (counted r : Result ℕ Error) → ((e : Error) → own e → IsErr counted) →
    IfErr counted (λ e. r ≡ Err e) → (e : Error) → own e → IsErr r
element_accepted own (Ok k) r none at e o = absurd (false≢true (none e o))
element_accepted own (Err c) r none at e o = rw at refl

-- a value that was written has no refusals of its own
pub neither_refuses : (allocates : Bool) (n : ℕ) (one other : SerializeError → Type 0) (old new : WriterState) (k : ℕ) →
    ((e : SerializeError) → one e → IsRefusedAtOnce allocates n (Either one other) old new (Ok k)) →
    ((e : SerializeError) → other e → IsErr {T = ℕ} {E = SerializeError} (Ok k)) → HasNone (Either one other)
neither_refuses allocates n one other old new k a b e (inl o) =
    not_refused allocates n (Either one other) old new k (a e o)
neither_refuses allocates n one other old new k a b e (inr o) = false≢true (b e o)

-- the refusals of a value under a tag whose class is one of four
pub class_refused : (class : ℕ) (allocates : Bool) (n : ℕ) (own : SerializeError → Type 0)
    (r : Result ℕ SerializeError) →
    class < 4 → IfErr r (Refuses allocates n own) → IfErr r (Refuses allocates n (UnderClass class own))
class_refused class allocates n own (Ok k) l h = tt
class_refused class allocates n own (Err e) l (inl m) = inl m
class_refused class allocates n own (Err e) l (inr o) = inr (inr (l, o))

pub class_at_once : (class : ℕ) (allocates : Bool) (n : ℕ) (own : SerializeError → Type 0) (old new : WriterState)
    (r : Result ℕ SerializeError) → class < 4 →
    ((e : SerializeError) → own e → IsRefusedAtOnce allocates n own old new r) →
    (e : SerializeError) → UnderClass class own e → IsRefusedAtOnce allocates n (UnderClass class own) old new r
class_at_once class allocates n own old new r l at e (inl h) = let k = h.0 in absurd (omega arith)
class_at_once class allocates n own old new r l at e (inr h) = let a = at e h.1 in (a.0, one_of a.0 a.1, a.2)
  where
    one_of : (f : SerializeError) → RefusesAtOnce allocates n own f → RefusesAtOnce allocates n (UnderClass class own) f
    one_of f (inl m) = inl m
    one_of f (inr o) = inr (inr (l, o))

-- refused before anything was appended
pub Wrote_nothing : {e : SerializeError} (xs : List ℕ) (a : WriterState) → is_io {A = ℕ} (Err e) ≡ false →
    Wrote xs a a (Err e)
Wrote_nothing {e} xs a h = record {
  ok = tt;
  err = record { front = []; rest = xs; parts = refl; grown = Appends_none a.told };
  mark = ap (λ m. m || a.failed) (sym h);
  marked = λ _. tt;
  nothing = λ _. h;
}

pub vector_refuses_neither : (one other : SerializeError → Type 0) → HasNone one → HasNone other →
    HasNone (Either one other)
vector_refuses_neither one other n m e (inl o) = n e o
vector_refuses_neither one other n m e (inr o) = m e o

-- a vector of the octets, or a refusal that is none of a writer
pub vector_done : {A : Type 0} (written o : List ℕ) → written ≡ o → (r : Result (Vec ℕ A) SerializeError) →
    IfOk r (λ v. v.items ≡ written) → IfErr r (MayRefuse true (length written)) → IfErr r (λ e. tells_of_io e ≡ false) →
    MatchResult r (λ v. v.items ≡ o) (IsMemoryOrLength o)
vector_done written o e (Ok v) w m io = w ∙ e
vector_done written o e (Err (serialize_errors.ASN1Error f)) w m io = absurd m
vector_done written o e (Err (serialize_errors.InvalidClass k)) w m io = absurd m
vector_done written o e (Err serialize_errors.InvalidLength) w m io = inr (refl, omega (arith, m, ap length e))
vector_done written o e (Err (serialize_errors.IOError f)) w m io = cc
vector_done written o e (Err serialize_errors.OutOfMemory) w m io = inl refl

pub plain_vector : {A : Type 0} (r : Result A SerializeError) (n : ℕ) (one other : SerializeError → Type 0) →
    HasNone one → HasNone other → IfErr r (VectorRefuses n (Either one other)) → IfErr r (MayRefuse true n)
plain_vector (Ok v) n one other a b h = tt
plain_vector (Err e) n one other a b (inl m) = m
plain_vector (Err e) n one other a b (inr (f, inl o, w)) = absurd (a f o)
plain_vector (Err e) n one other a b (inr (f, inr o, w)) = absurd (b f o)

-- a vector of octets that fit in memory is refused only when out of memory
pub vector_fits : {A : Type 0} (P : A → Type 0) (o : List ℕ) (r : Result A SerializeError) → length o < 2 ^ 64 →
    MatchResult r P (IsMemoryOrLength o) → MatchResult r P (λ e. e ≡ serialize_errors.OutOfMemory)
vector_fits P o (Ok v) l h = h
vector_fits P o (Err e) l (inl m) = m
vector_fits P o (Err e) l (inr h) = absurd (omega (arith, h.1, l))

-- what was refused at once, from a writing into a vector
pub at_once_into : (allocates : Bool) (n : ℕ) (own : SerializeError → Type 0) (old new : WriterState)
    (e f : SerializeError) → WithoutIo e f → IsRefusedAtOnce allocates n own old new (Err e) →
    IntoVector (RefusesAtOnce allocates n own) f
at_once_into allocates n own old new e f same at =
    let one : e ≡ at.0 = (let h = at.2.refused in cc) in (at.0, at.1, same ∙ ap vector_refusal one)

-- a value that was written has no refusals of its own, neither of its counts
pub is_writable : {S : Type 0} (w : Writing S) (x : S) → HasNone (w.count_refuses x) → HasNone (whole_refuses w x) →
    IsWritable w x
is_writable w x n m = (n, λ e o. m e (inl o), λ e o. m e (inr o))

-- A refusal of what is the value's own.

-- a writer whose mark is never set gives no refusal
pub unmarked_is_no_io : (io failed : Bool) → failed ≡ false → failed ≡ (io || false) → io ≡ false
unmarked_is_no_io true failed a b = sym b ∙ a
unmarked_is_no_io false failed a b = refl

-- what was refused at once in one writer, in another one that is as it was
pub at_once_elsewhere : (allocates : Bool) (n : ℕ) (own : SerializeError → Type 0) (old new w : WriterState)
    (r : Result ℕ SerializeError) →
    IsRefusedAtOnce allocates n own old new r → IsRefusedAtOnce allocates n own w w r
at_once_elsewhere allocates n own old new w r at =
    (at.0, at.1, record { refused = at.2.refused; kept = refl })

-- a writing of so many octets that their number is not past what 64 bits hold
pub may_refuse_none : (e : SerializeError) (allocates : Bool) (n : ℕ) → n < 2 ^ 64 → MayRefuse allocates n e →
    MayRefuse allocates 0 e
may_refuse_none (serialize_errors.ASN1Error e) allocates n l h = absurd h
may_refuse_none (serialize_errors.InvalidClass c) allocates n l h = absurd h
may_refuse_none serialize_errors.InvalidLength allocates n l h = absurd (omega arith)
may_refuse_none (serialize_errors.IOError e) allocates n l h = tt
may_refuse_none serialize_errors.OutOfMemory allocates n l h = h

-- A refusal is no value's own where the value has none.
pub keeps_or_may : (r : Result ℕ SerializeError) (allocates : Bool) (n : ℕ) (own : SerializeError → Type 0)
    (old new : WriterState) →
    n < 2 ^ 64 → HasNone own → IfErr r (Refuses allocates n own) → KeepsOrMayRefuse allocates old new r
keeps_or_may (Ok k) allocates n own old new l none h = tt
keeps_or_may (Err e) allocates n own old new l none (inl m) = inl (may_refuse_none e allocates n l m)
keeps_or_may (Err e) allocates n own old new l none (inr o) = absurd (none e o)

pub may_keep : (r : Result ℕ SerializeError) (allocates : Bool) (old new : WriterState) →
    IfErr r (MayRefuse allocates 0) → KeepsOrMayRefuse allocates old new r
may_keep (Ok k) allocates old new h = tt
may_keep (Err e) allocates old new h = inl h

-- nothing was asked of the writer
pub kept_keeps : (r : Result ℕ SerializeError) (allocates : Bool) (old : WriterState) → KeepsOrMayRefuse allocates old old r
kept_keeps (Ok k) allocates old = tt
kept_keeps (Err e) allocates old = inr refl

-- one call of a writer that took the octets at once, in a writing that may allocate
pub put_keeps : (r : Result ℕ SerializeError) (allocates : Bool) (old new : WriterState) →
    KeepsOrMayRefuse false old new r → KeepsOrMayRefuse allocates old new r
put_keeps (Ok k) allocates old new h = tt
put_keeps (Err e) allocates old new (inr k) = inr k
put_keeps (Err (serialize_errors.ASN1Error e)) allocates old new (inl h) = absurd h
put_keeps (Err (serialize_errors.InvalidClass c)) allocates old new (inl h) = absurd h
put_keeps (Err serialize_errors.InvalidLength) allocates old new (inl h) = absurd (omega (arith, h))
put_keeps (Err (serialize_errors.IOError e)) allocates old new (inl h) = inl tt
put_keeps (Err serialize_errors.OutOfMemory) allocates old new (inl h) = cc

-- a sum that fits is not refused
pub sum_keeps : (n m : ℕ) (r : Result ℕ SerializeError) (allocates : Bool) (old new : WriterState) → n + m < 2 ^ 64 →
    SumsWritten n m r → KeepsOrMayRefuse allocates old new r
sum_keeps n m (Ok k) allocates old new l s = tt
sum_keeps n m (Err e) allocates old new l s = absurd (omega (arith, s.1))

-- what was written in two parts, whose sum is a number of 64 bits
pub whole_fits : {n m k : ℕ} (xs ys : List ℕ) {a b c d : WriterState} → Wrote xs a b (Ok n) → Wrote ys c d (Ok m) →
    SumsWritten n m (Ok k) → k < 2 ^ 64 → length (xs ++ ys) < 2 ^ 64
whole_fits xs ys p q s l = simp length-append (omega (arith, p.ok.1, q.ok.1, s))

-- a header that has few octets
pub few_octets : (r : Result ℕ SerializeError) (m n : ℕ) → m ≤ n → IfOk r (λ k. k ≤ m) → IfOk r (λ k. k ≤ n)
few_octets (Ok k) m n l h = omega arith
few_octets (Err e) m n l h = tt

-- A value whose header and contents octets were both written has no refusal of its own.
pub none_own : (one other : SerializeError → Type 0) {allocates : Bool} {m : ℕ} {own : SerializeError → Type 0}
    {old new : WriterState} (k l : ℕ) →
    ((e : SerializeError) → one e → IsRefusedAtOnce allocates m own old new (Ok k)) →
    ((e : SerializeError) → other e → IsErr {T = ℕ} {E = SerializeError} (Ok l)) → HasNone (Either one other)
none_own one other {allocates} {m} {own} {old} {new} k l a b e (inl o) = not_refused allocates m own old new k (a e o)
none_own one other k l a b e (inr o) = false≢true (b e o)

-- The whole, of which header and contents octets are written one after the other: the refusals of either are its own.
module _ {S : Type 0} (w : Writing S) (x : S) where
  pub header_refuses : (e : SerializeError) →
      Refuses w.count_allocates (length (whole_octets w x)) (w.header_refuses x) e →
      Refuses (whole_allocates w) (length (whole_octets w x)) (whole_refuses w x) e
  header_refuses e h =
      let own = w.header_refuses x in
      let other = w.content_refuses x in
      refuses_wider e w.write_allocates _ _ (Either own other)
      (refuses_first e w.count_allocates w.content_allocates _ own other h)

  pub content_refuses : (e : SerializeError) →
      Refuses w.content_allocates (length (w.content x)) (w.content_refuses x) e →
      Refuses (whole_allocates w) (length (whole_octets w x)) (whole_refuses w x) e
  content_refuses e h =
      let own = w.header_refuses x in
      let other = w.content_refuses x in
      refuses_wider e w.write_allocates _ _ (Either own other)
      (refuses_second e w.count_allocates w.content_allocates _ _ own other (simp length-append (omega arith)) h)

  -- the header was refused by one writer, and another is as it was
  pub header_refuses_at_once : {old new : WriterState} (v : WriterState) (r : Result ℕ SerializeError) →
      IsRefusedAtOnce w.count_allocates (length (whole_octets w x)) (w.header_refuses x) old new r →
      IsRefusedAtOnce (whole_allocates w) (length (whole_octets w x)) (whole_refuses w x) v v r
  header_refuses_at_once v r at =
      at_once_elsewhere _ _ _ _ _ v r (header_at_once w.write_allocates w.count_allocates w.content_allocates _
      (w.header_refuses x) (w.content_refuses x) _ _ r at)

  -- A header that was written is not refused.
  pub header_not_refused : {old new : WriterState} {k : ℕ} →
      IsRefusedAtOnce w.count_allocates (length (whole_octets w x)) (w.header_refuses x) old new (Ok k) → ⊥
  header_not_refused at = not_refused _ _ (w.header_refuses x) _ _ _ at

  -- A refusal behind header and contents octets that a sink took is no refusal of the value's own.
  pub written_keeps : {old new : WriterState} (before after : WriterState) (k l : ℕ) (r : Result ℕ SerializeError) →
      ((e : SerializeError) → w.header_refuses x e →
      IsRefusedAtOnce w.count_allocates (length (whole_octets w x)) (w.header_refuses x) old new (Ok k)) →
      ((e : SerializeError) → w.content_refuses x e → IsErr {T = ℕ} {E = SerializeError} (Ok l)) →
      length (whole_octets w x) < 2 ^ 64 →
      IfErr r (Refuses (whole_allocates w) (length (whole_octets w x)) (whole_refuses w x)) →
      KeepsOrMayRefuse (whole_allocates w) before after r
  written_keeps before after k l r header content fits refused =
      keeps_or_may r _ _ _ _ _ fits (none_own (w.header_refuses x) (w.content_refuses x) k l header content) refused
