-- Laws of one writing after another.
use Rattle.std.proofs.Common.{◌≡◌, ℕ, ◌+◌, Bool, false, ◌||◌, List, [], ◌++◌, length, take, drop, ◌-◌, ◌≤◌}
use Rattle.std.proofs.Common.{length-append, Option, None, Some, IfErr, IsTrue, Result, Ok, Err, ◌∷◌, refl, sym, ap}
use Rattle.std.proofs.Common.{◌∙◌, append_assoc, arith, subst}
use Rattle.std.proofs.lemmas.Bool.{or_left, or_right}
use Rattle.std.proofs.lemmas.List.{append-nil}
use Rattle.std.proofs.lemmas.Fn.{FoldsTo-push}
use Rattle.std.proofs.lemmas.Grind.{common_steps}
use Rattle.std.specs.Io.KnownBytes.{Appends}
use Rattle.asn1_headers.specs.Writer.{WriterState, Wrote, Calls, Took, TookAllBut, SumsWritten, MayRefuse}
use Rattle.asn1_headers.specs.Error.{is_io}
use Rattle.asn1_headers.specs.declared.error.SerializeError.TheVariants as serialize_errors
use Rattle.asn1_headers.specs.declared.error.SerializeError.{SerializeError}

-- What is appended in two steps is appended.
pub Appends_more : (a b c : Option (List ℕ)) (xs ys : List ℕ) → Appends a b xs → Appends b c ys → Appends a c (xs ++ ys)
Appends_more None b c xs ys p q = tt
Appends_more (Some a) (Some b) (Some c) xs ys p q = q ∙ ap (λ z. z ++ ys) p ∙ append_assoc a xs ys
Appends_more (Some a) None c xs ys p q = absurd p
Appends_more (Some a) (Some b) None xs ys p q = absurd q

-- Nothing is appended where nothing changes.
pub Appends_none : (a : Option (List ℕ)) → Appends a a []
Appends_none None = tt
Appends_none (Some a) = sym (append-nil a)

-- no octets are joined of none
pub none_of_both : (xs ys : List ℕ) → xs ++ ys ≡ [] → (xs ≡ []) × (ys ≡ [])
none_of_both [] ys e = (refl, e)
none_of_both (x ∷ xs) ys e = cc

-- a piece of which n more octets were taken
pub taken_more : (piece front rest : List ℕ) (n : ℕ) → n ≤ length rest → piece ≡ front ++ rest →
    piece ≡ (front ++ take n rest) ++ take (length rest - n) (drop n rest)
taken_more piece front rest n h e = e ∙ grind (arith, common_steps)

-- what is left of a piece past n octets, as a slice
pub slice_left : (rest : List ℕ) (n : ℕ) → n ≤ length rest → take (length rest - n) (drop n rest) ≡ drop n rest
slice_left rest n h = grind (arith, common_steps)

-- one more call of `put`, on what was left
pub took_more : {W : Type 0} (puts : Calls W) (piece : List ℕ) (old before : W) (rest : List ℕ) (n : ℕ) (new : W) →
    TookAllBut puts piece old rest before → puts before rest (Ok n) new → 1 ≤ n → n ≤ length rest →
    TookAllBut puts piece old (take (length rest - n) (drop n rest)) new
took_more puts piece old before rest n new calls call some h = (
  calls.0 ++ (n ∷ []),
  FoldsTo-push (Took puts) (old, piece) calls.0 (before, rest) n (new, take (length rest - n) (drop n rest)) calls.1
      (call, some, h, slice_left rest n h),
)

-- of no octets no call takes any
pub none_took : {W : Type 0} (puts : Calls W) (old : W) (rest : List ℕ) (new : W) → TookAllBut puts [] old rest new →
    (rest ≡ []) × (new ≡ old)
none_took puts old rest new ([], e) = (ap (λ (p : _ × List ℕ). p.1) (sym e), ap (λ (p : _ × List ℕ). p.0) (sym e))
none_took puts old rest new (n ∷ counts, call) = absurd (omega (arith, call.1.1, call.1.2))

-- a refusal after a part that was written
pub Wrote_then_err : {e : SerializeError} {n : ℕ} {xs ys : List ℕ} {a b c : WriterState} → Wrote xs a b (Ok n) →
    Wrote ys b c (Err e) → Wrote (xs ++ ys) a c (Err e)
Wrote_then_err {e} {n} {xs} {ys} {a} {b} {c} p q = record {
  ok = tt;
  err = let r = q.err in record {
    front = xs ++ r.front;
    rest = r.rest;
    parts = ap (λ z. xs ++ z) r.parts ∙ sym (append_assoc xs r.front r.rest);
    grown = Appends_more a.told b.told c.told xs r.front p.ok.0 r.grown;
  };
  mark = q.mark ∙ ap (λ m. is_io {A = ℕ} (Err e) || m) p.mark;
  marked = λ _. tt;
  nothing = λ h. q.nothing (none_of_both xs ys h).1;
}

-- both parts were written
pub Wrote_then : {n m : ℕ} {xs ys : List ℕ} {a b c : WriterState} → Wrote xs a b (Ok n) → Wrote ys b c (Ok m) →
    Wrote (xs ++ ys) a c (Ok (n + m))
Wrote_then {n} {m} {xs} {ys} {a} {b} {c} p q = record {
  ok = (Appends_more a.told b.told c.told xs ys p.ok.0 q.ok.0, simp length-append (omega (arith, p.ok.1, q.ok.1)));
  err = tt;
  mark = q.mark ∙ p.mark;
  marked = λ h. ap (λ z. z ++ ys) (p.marked h) ∙ q.marked (subst IsTrue (sym p.mark) h);
  nothing = λ _. refl;
}

-- all was written, and the answer is still a refusal
pub Wrote_refused : {e : SerializeError} {n : ℕ} {xs : List ℕ} {a b : WriterState} → Wrote xs a b (Ok n) →
    is_io {A = ℕ} (Err e) ≡ false → Wrote xs a b (Err e)
Wrote_refused {e} {n} {xs} {a} {b} p h = record {
  ok = tt;
  err = record { front = xs; rest = []; parts = sym (append-nil xs); grown = p.ok.0 };
  mark = p.mark ∙ ap (λ m. m || a.failed) (sym h);
  marked = λ _. tt;
  nothing = λ _. h;
}

-- Where two pieces are written and their numbers added, both were written, or the sum passes what a length may be.
pub Wrote_sum : {n m : ℕ} {xs ys : List ℕ} {a b c : WriterState} (r : Result ℕ SerializeError) → Wrote xs a b (Ok n) →
    Wrote ys b c (Ok m) → SumsWritten n m r → Wrote (xs ++ ys) a c r
Wrote_sum (Ok k) p q h = rw h (Wrote_then p q)
Wrote_sum (Err e) p q h = rw h.0 (Wrote_refused (Wrote_then p q) refl)

-- A sum of two counts is refused only where the length of both pieces allows it.
pub MayRefuse_sum : {n m : ℕ} (allocates : Bool) (xs ys : List ℕ) {a b c d : WriterState}
    (r : Result ℕ SerializeError) →
    Wrote xs a b (Ok n) → Wrote ys c d (Ok m) → SumsWritten n m r → IfErr r (MayRefuse allocates (length (xs ++ ys)))
MayRefuse_sum allocates xs ys (Ok k) p q h = tt
MayRefuse_sum allocates xs ys (Err e) p q h = rw h.0 (simp length-append (omega (arith, p.ok.1, q.ok.1, h.1)))

-- a refusal within the first part
pub Wrote_front : {e : SerializeError} {xs : List ℕ} {a b : WriterState} (zs : List ℕ) → Wrote xs a b (Err e) →
    Wrote (xs ++ zs) a b (Err e)
Wrote_front {e} {xs} zs p = record {
  ok = tt;
  err = let r = p.err in record {
    front = r.front;
    rest = r.rest ++ zs;
    parts = ap (λ z. z ++ zs) r.parts ∙ append_assoc r.front r.rest zs;
    grown = r.grown;
  };
  mark = p.mark;
  marked = λ _. tt;
  nothing = λ h. p.nothing (none_of_both xs zs h).0;
}

-- What may refuse a length may refuse a greater one.
pub MayRefuse_more : (e : SerializeError) (allocates : Bool) (m n : ℕ) → m ≤ n → MayRefuse allocates m e →
    MayRefuse allocates n e
MayRefuse_more (serialize_errors.ASN1Error e) allocates m n h p = absurd p
MayRefuse_more (serialize_errors.InvalidClass c) allocates m n h p = absurd p
MayRefuse_more serialize_errors.InvalidLength allocates m n h p = omega arith
MayRefuse_more (serialize_errors.IOError e) allocates m n h p = tt
MayRefuse_more serialize_errors.OutOfMemory allocates m n h p = p

-- What may refuse a writing may refuse another one that allocates where it does.
MayRefuse_where : (e : SerializeError) (allocates gives : Bool) (n : ℕ) → (IsTrue allocates → IsTrue gives) →
    MayRefuse allocates n e → MayRefuse gives n e
MayRefuse_where (serialize_errors.ASN1Error e) allocates gives n h p = absurd p
MayRefuse_where (serialize_errors.InvalidClass c) allocates gives n h p = absurd p
MayRefuse_where serialize_errors.InvalidLength allocates gives n h p = p
MayRefuse_where (serialize_errors.IOError e) allocates gives n h p = tt
MayRefuse_where serialize_errors.OutOfMemory allocates gives n h p = h p

-- What may refuse one of two writings may refuse both together.
pub MayRefuse_either : (e : SerializeError) (allocates gives : Bool) (n : ℕ) → MayRefuse allocates n e →
    MayRefuse (allocates || gives) n e
MayRefuse_either e allocates gives n = MayRefuse_where e allocates (allocates || gives) n (or_left allocates gives)

-- What may refuse the other of two writings may refuse both together.
pub MayRefuse_other : (e : SerializeError) (allocates gives : Bool) (n : ℕ) → MayRefuse gives n e →
    MayRefuse (allocates || gives) n e
MayRefuse_other e allocates gives n = MayRefuse_where e gives (allocates || gives) n (or_right allocates gives)
