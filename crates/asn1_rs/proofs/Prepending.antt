-- Refusals of what is put before the octets of a buffer.
use Rattle.std.proofs.Common.{◌≡◌, inl, inr, ℕ, ◌+◌, ◌<◌, ◌≤◌, suc, Bool, true, false, List, ◌++◌, length, take, drop}
use Rattle.std.proofs.Common.{get_or, length-append, append_assoc, IfErr, IfOk, Result, Ok, Err, refl, sym, ap, subst}
use Rattle.std.proofs.Common.{◌∙◌, ◌-◌, arith}
use Rattle.std.proofs.lemmas.List.{drop_at}
use Rattle.std.specs.List.{flat_map}
use Rattle.std.proofs.lemmas.Bool.{false≢true}
use Rattle.std.specs.Prelude.{IsErr, ◌≢◌}
use Rattle.asn1_headers.specs.declared.error.SerializeError.{SerializeError}
use Rattle.asn1_headers.specs.Error.{WithoutIo}
use Rattle.asn1_headers.specs.Laws.Writing.{MayRefuse_more}
use Rattle.asn1_headers.specs.Writer.{MayRefuse}
use Rattle.asn1_headers.specs.Error.{written_refusal, vector_refusal, tells_of_io}
use Rattle.asn1_headers.specs.Prepended.{Prepended}
use Rattle.asn1_headers.specs.Laws.Prepending.{Prepended_last, Prepended_first, Prepended_sum}
use Rattle.asn1_headers.specs.Writer.{SumsWritten}
use Rattle.asn1_headers.specs.declared.error.Error.{Error}
use Rattle.asn1_headers.specs.declared.error.Error.TheVariants as errors
use Rattle.asn1_rs.specs.ToDer.{VectorRefuses, IntoVector, Either, Refuses, RefusesAtOnce}
use Rattle.asn1_headers.specs.declared.error.SerializeError.TheVariants as serialize_errors
use Rattle.asn1_rs.specs.Kinds.Writing.{PrependRefused, OwnRefusal, OwnWritten, OwnFirst}
use Rattle.asn1_rs.specs.Lists.{SomeRefuses}
use Rattle.asn1_rs.specs.Tagged.Writing.{UnderClass}
use Rattle.asn1_rs.proofs.Lists.{item_at, some_refuses}

-- a refusal of a writing into a vector, before it was put in front
pub vector_before : (e f : SerializeError) (allocates : Bool) (m n : ℕ) (own : SerializeError → Type 0) → m ≤ n →
    ((n : ℕ) (allocates : Bool) → MayRefuse allocates n e → MayRefuse true n f) → WithoutIo e f →
    Refuses allocates m own e →
    VectorRefuses n own f
vector_before e f allocates m n own l may same (inl h) = inl (MayRefuse_more f true m n l (may m allocates h))
vector_before e f allocates m n own l may same (inr o) = inr (e, o, same)

pub vector_more : (e : SerializeError) (m n : ℕ) (own : SerializeError → Type 0) → m ≤ n → VectorRefuses m own e →
    VectorRefuses n own e
vector_more e m n own l (inl h) = inl (MayRefuse_more e true m n l h)
vector_more e m n own l (inr o) = inr o

pub vector_twice : (e : SerializeError) → vector_refusal (vector_refusal e) ≡ vector_refusal e
vector_twice (serialize_errors.ASN1Error e) = refl
vector_twice (serialize_errors.InvalidClass c) = refl
vector_twice serialize_errors.InvalidLength = refl
vector_twice (serialize_errors.IOError e) = refl
vector_twice serialize_errors.OutOfMemory = refl

pub refused_twice : (e : SerializeError) (own : SerializeError → Type 0) → IntoVector own e → e ≡ vector_refusal e
refused_twice e own (f, o, is) = is ∙ sym (vector_twice f) ∙ ap vector_refusal (sym is)

pub may_put : (r : Result ℕ SerializeError) (n : ℕ) (own : SerializeError → Type 0) → IfErr r (MayRefuse true n) →
    IfErr r (VectorRefuses n own)
may_put (Ok k) n own h = tt
may_put (Err e) n own h = inl h

-- a refusal of items that were collected, before what a buffer held
pub collected_refused : {X : Type 0} (e : SerializeError) (m n : ℕ) (xs : List X) (own : X → SerializeError → Type 0) →
    Refuses true m (SomeRefuses (λ x. IntoVector (own x)) xs) e →
    VectorRefuses (m + n) (SomeRefuses (λ x. IntoVector (own x)) xs) e
collected_refused e m n xs own (inl h) = inl (MayRefuse_more e true m (m + n) (omega arith) h)
collected_refused e m n xs own (inr (i, x, l, at, o)) = inr (e, (i, x, l, at, o), refused_twice e (own x) o)

-- a refusal of an item that was put in front, told as one of items that are written into a vector
pub vector_of_items : {X : Type 0} (e : SerializeError) (n : ℕ) (xs : List X) (own : X → SerializeError → Type 0) →
    VectorRefuses n (SomeRefuses own xs) e → VectorRefuses n (SomeRefuses (λ x. IntoVector (own x)) xs) e
vector_of_items e n xs own (inl h) = inl h
vector_of_items e n xs own (inr (f, (i, x, l, at, o), is)) =
    inr (e, (i, x, l, at, (f, o, is)), refused_twice e (own x) (f, o, is))

pub item_of_vector : {X : Type 0} (e : SerializeError) (xs : List X) (own : X → SerializeError → Type 0) →
    SomeRefuses (λ x. IntoVector (own x)) xs e → (f : SerializeError) × SomeRefuses own xs f
item_of_vector e xs own (i, x, l, at, (f, o, is)) = (f, (i, x, l, at, o))

-- the same of what stands in a vector or a buffer at once
pub vector_of_own : (r : Result ℕ SerializeError) (n : ℕ) (own : SerializeError → Type 0) →
    IfErr r (VectorRefuses n own) → IfErr r (VectorRefuses n (IntoVector own))
vector_of_own (Ok k) n own h = tt
vector_of_own (Err e) n own (inl m) = inl m
vector_of_own (Err e) n own (inr (f, o, is)) = inr (e, (f, o, is), refused_twice e own (f, o, is))

-- the last octets, where as many are kept as there were
pub kept_back : (front old mid new : List ℕ) (held : ℕ) → mid ≡ front ++ old → held ≡ length old →
    new ≡ drop (length mid - held) mid → new ≡ old
kept_back front old mid new held m h is =
    let l = length-append front old in
    is ∙ ap (λ z. drop (length z - held) z) m ∙ drop_at front old _ (omega (arith, l, h))

-- refused by one of two parts
pub vector_first : (e : SerializeError) (m n : ℕ) (one other : SerializeError → Type 0) → m ≤ n →
    VectorRefuses m one e → VectorRefuses n (Either one other) e
vector_first e m n one other l (inl h) = inl (MayRefuse_more e true m n l h)
vector_first e m n one other l (inr o) = inr (o.0, inl o.1, o.2)

pub vector_second : (e : SerializeError) (m n : ℕ) (one other : SerializeError → Type 0) → m ≤ n →
    VectorRefuses m other e → VectorRefuses n (Either one other) e
vector_second e m n one other l (inl h) = inl (MayRefuse_more e true m n l h)
vector_second e m n one other l (inr o) = inr (o.0, inr o.1, o.2)

-- a header before contents octets that stand there, or their refusal handed on
pub handed_refused : (content r : Result ℕ SerializeError) (K : Type 0) (m n : ℕ) (own : SerializeError → Type 0) →
    m ≤ n → IfErr content (VectorRefuses m own) → IfOk content (λ _. IfErr r (MayRefuse true n)) →
    IfErr content (λ e. (r ≡ Err e) × K) → IfErr r (VectorRefuses n own)
handed_refused (Ok k) (Ok j) K m n own l h may at = tt
handed_refused (Ok k) (Err e) K m n own l h may at = inl may
handed_refused (Err e) r K m n own l h may at = rw at.0 (vector_more e m n own l h)

pub second_within : (r : Result ℕ SerializeError) (n : ℕ) (one own : SerializeError → Type 0) →
    IfErr r (VectorRefuses n own) → IfErr r (VectorRefuses n (Either one own))
second_within (Ok k) n one own h = tt
second_within (Err e) n one own (inl m) = inl m
second_within (Err e) n one own (inr o) = inr (o.0, inr o.1, o.2)

pub handed_err : (content r : Result ℕ SerializeError) (K : Type 0) → IsErr content →
    IfErr content (λ e. (r ≡ Err e) × K) → IsErr r
handed_err (Ok k) r K h at = absurd (false≢true h)
handed_err (Err e) r K h at = rw at.0 refl

-- a header before contents octets that were refused, with the buffer as it was
pub handed_kept : (content r : Result ℕ SerializeError) (e : SerializeError) (old mid new : List ℕ) →
    (content ≡ Err e) × (mid ≡ old) → IfErr content (λ e. (r ≡ Err e) × (new ≡ mid)) → (r ≡ Err e) × (new ≡ old)
handed_kept (Ok k) r e old mid new (is, same) at = absurd (let p = is in cc)
handed_kept (Err f) r e old mid new (is, same) (handed, kept) = (handed ∙ is, kept ∙ same)

-- ---- values of a class

pub class_within : (class : ℕ) (r : Result ℕ SerializeError) (n : ℕ) (one own : SerializeError → Type 0) →
    class < 4 → IfErr r (VectorRefuses n own) → IfErr r (VectorRefuses n (Either one (UnderClass class own)))
class_within class (Ok k) n one own l h = tt
class_within class (Err e) n one own l (inl m) = inl m
class_within class (Err e) n one own l (inr o) = inr (o.0, inr (inr (l, o.1)), o.2)

-- ---- values that are refused for what they are

written_is_no_io : (e : Error) → vector_refusal (written_refusal e) ≡ written_refusal e
written_is_no_io errors.InvalidLength = refl
written_is_no_io errors.OutOfMemory = refl
written_is_no_io _ = refl

module _ (own : Error → Type 0) where
  pub prepend_refuses : (b : Bool) (n : ℕ) (old new : List ℕ) (r : Result ℕ SerializeError) →
      PrependRefused b own n old new r → IfErr r (VectorRefuses n (OwnWritten b own))
  prepend_refuses false n old new (Ok k) h = tt
  prepend_refuses false n old new (Err e) h = inl h
  prepend_refuses true n old new r (e, o, is, same) =
      rw is (inr (written_refusal e, (e, o, refl), sym (written_is_no_io e)))

  pub prepend_accepted : (b : Bool) (n : ℕ) (old new : List ℕ) (r : Result ℕ SerializeError) →
      PrependRefused b own n old new r → (e : SerializeError) → OwnWritten b own e → IsErr r
  prepend_accepted false n old new r h e o = absurd o
  prepend_accepted true n old new r h e o = rw h.2 refl

  pub prepend_uncounted : (b : Bool) (n : ℕ) (old new : List ℕ) (r : Result ℕ SerializeError) →
      PrependRefused b own n old new r → (e : Error) → OwnRefusal b own e → IsErr r
  prepend_uncounted false n old new r h e o = absurd o
  prepend_uncounted true n old new r h e o = rw h.2 refl

  pub prepend_first : (b : Bool) (n : ℕ) (old new : List ℕ) (r : Result ℕ SerializeError) →
      PrependRefused b own n old new r → (e : SerializeError) → OwnFirst b own e →
      (r ≡ Err (vector_refusal e)) × (new ≡ old)
  prepend_first false n old new r h e o = absurd o
  prepend_first true n old new r (f, g, is, same) e o =
      (rw (o f g) (is ∙ ap Err (sym (written_is_no_io f))), same)

-- ---- items

module _ {X : Type 0} (f : X → List ℕ) (xs : List X) (i : ℕ) (x : X) (h : i < length xs) (at : x ≡ get_or xs i x)
    (k : ℕ) (next : k ≡ suc i) where
  item_after : flat_map f xs ≡ flat_map f (take i xs) ++ (f x ++ flat_map f (drop k xs))
  item_after =
      item_at f xs i x h at ∙ append_assoc (flat_map f (take i xs)) (f x) (flat_map f (drop (suc i) xs))
      ∙ ap (λ j. flat_map f (take i xs) ++ (f x ++ flat_map f (drop j xs))) (sym next)

  pub Prepended_item_err : {n : ℕ} {e : SerializeError} {old mid new : List ℕ} →
      Prepended (flat_map f (drop k xs)) old mid (Ok n) → Prepended (f x) mid new (Err e) →
      Prepended (flat_map f xs) old new (Err e)
  Prepended_item_err p q = rw item_after (Prepended_last (flat_map f (take i xs)) (Prepended_first p q))

  pub Prepended_item_sum : {n m : ℕ} {e : SerializeError} {old mid new : List ℕ} →
      Prepended (flat_map f (drop k xs)) old mid (Ok n) → Prepended (f x) mid new (Ok m) → SumsWritten m n (Err e) →
      Prepended (flat_map f xs) old new (Err e)
  Prepended_item_sum {n} {m} {e} p q s =
      rw item_after (Prepended_last (flat_map f (take i xs)) (Prepended_sum (Err e) p q s))

  pub VectorRefuses_item : {n : ℕ} (e : SerializeError) (own : X → SerializeError → Type 0) {old mid : List ℕ} →
      Prepended (flat_map f (drop k xs)) old mid (Ok n) → VectorRefuses (length (f x) + length mid) (own x) e →
      VectorRefuses (length (flat_map f xs) + length old) (SomeRefuses own xs) e
  VectorRefuses_item e own {old} {mid} p (inl q) =
      let l = ap length item_after in
      let m = ap length p.ok.0 in
      inl (MayRefuse_more e true _ _ (omega (arith, simp length-append at l, simp length-append at m)) q)
  VectorRefuses_item e own p (inr o) = inr (o.0, some_refuses f xs i x h at own o.0 o.1, o.2)

  pub MayRefuse_item_sum_back : {n m : ℕ} (e : SerializeError) {old mid new : List ℕ} →
      Prepended (flat_map f (drop k xs)) old mid (Ok n) → Prepended (f x) mid new (Ok m) → SumsWritten m n (Err e) →
      MayRefuse true (length (flat_map f xs) + length old) e
  MayRefuse_item_sum_back e p q s =
      let l = ap length item_after in rw s.0 (omega (arith, simp length-append at l, p.ok.1, q.ok.1, s.1))

-- ---- a putting that is refused, but not for want of memory, refuses a writing at once

stands_refused : (e : SerializeError) (allocates : Bool) (m n : ℕ) (own : SerializeError → Type 0) → m ≤ n →
    e ≢ serialize_errors.OutOfMemory → tells_of_io e ≡ false → VectorRefuses m own e → RefusesAtOnce allocates n own e
stands_refused (serialize_errors.ASN1Error a) allocates m n own l some io (inl h) = absurd h
stands_refused (serialize_errors.InvalidClass a) allocates m n own l some io (inl h) = absurd h
stands_refused serialize_errors.InvalidLength allocates m n own l some io (inl h) = inl (omega arith, refl)
stands_refused (serialize_errors.IOError a) allocates m n own l some io (inl h) = absurd (false≢true (sym io))
stands_refused serialize_errors.OutOfMemory allocates m n own l some io (inl h) = absurd (some refl)
stands_refused e allocates m n own l some io (inr (serialize_errors.ASN1Error a, o, is)) = inr (rw is o)
stands_refused e allocates m n own l some io (inr (serialize_errors.InvalidClass a, o, is)) = inr (rw is o)
stands_refused e allocates m n own l some io (inr (serialize_errors.InvalidLength, o, is)) = inr (rw is o)
stands_refused e allocates m n own l some io (inr (serialize_errors.IOError a, o, is)) = absurd (some is)
stands_refused e allocates m n own l some io (inr (serialize_errors.OutOfMemory, o, is)) = absurd (some is)

pub stands_at_once : (answer : Result ℕ SerializeError) (e : SerializeError) (allocates : Bool) (m n : ℕ)
    (own : SerializeError → Type 0) → answer ≡ Err e → m ≤ n → e ≢ serialize_errors.OutOfMemory →
    IfErr answer (VectorRefuses m own) → IfErr answer (λ f. tells_of_io f ≡ false) → RefusesAtOnce allocates n own e
stands_at_once (Ok k) e allocates m n own is l some refused memory = absurd (let p = is in cc)
stands_at_once (Err f) e allocates m n own is l some refused memory =
    let same : f ≡ e = (let p = is in cc) in
    stands_refused e allocates m n own l some (subst (λ r. tells_of_io r ≡ false) same memory)
    (subst (VectorRefuses m own) same refused)
