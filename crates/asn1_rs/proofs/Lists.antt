-- Items, one after another.
use Rattle.std.proofs.Common.{◌≡◌, ◌≢◌, inl, inr, ℕ, ◌+◌, ◌<◌, ◌≤◌, zero, suc, Bool, true, false, ◌==◌, List, [], ◌∷◌}
use Rattle.std.proofs.Common.{◌++◌, length, take, drop, get_or, map, Option, Some, None, Result, Ok, Err, refl, sym, ap}
use Rattle.std.proofs.Common.{◌∙◌, append_assoc, length-append, arith, subst}
use Rattle.std.proofs.lemmas.Bool.Decides.{nat_tests}
use Rattle.std.proofs.lemmas.Grind.{flat_map-append}
use Rattle.std.proofs.lemmas.List.Concat.{flat_map-cons}
use Rattle.std.proofs.lemmas.List.Elements.{All-head, All-more}
use Rattle.std.proofs.lemmas.List.{take_all, take_more, append-nil}
use Rattle.asn1_rs.specs.Laws.Lists.{none_refuses}
use Rattle.std.proofs.Math.Seq.{split_at}
use Rattle.std.specs.List.{All, flat_map}
use Rattle.std.specs.Iterator.{Yields, AlwaysYields}
use Rattle.std.specs.Borrow.{Bor}
use Rattle.std.specs.Map.Iter.{TakesFirst, deref}
use Rattle.std.specs.Slice.Iter.{iter_rest}
use Rattle.std.proofs.iter.Yields.{fronts}
use Rattle.std.proofs.lemmas.Iterator.{YieldsList, YieldsList-from_slice}
use Rattle.std.proofs.lemmas.Iterator.Consumers.{YieldsList-turn, YieldsList-end, YieldsList-from_rest}
use Rattle.x690.specs.Elements.{Parts, IsDerElement}
use Rattle.x690.specs.Faults.{DerElementFault}
use Rattle.x690.specs.Rules.{der_rule}
use Rattle.x690.specs.Laws.Elements.{definite_element_two}
use Rattle.asn1_rs.specs.declared.asn1_types.any.Any.{Any}
use Rattle.asn1_headers.specs.declared.error.Err.{Err as Refusal}
use Rattle.asn1_headers.specs.declared.error.Err.TheVariants.{Incomplete as truncated, Error as refused, Failure as failed}
use Rattle.asn1_headers.specs.Error.{Converted, FlattenedTo}
use Rattle.asn1_headers.specs.Header.Reading.{Refused, der_refusal}
use Rattle.asn1_rs.specs.Any.{parts_of, BeginsWithAny}
use Rattle.asn1_headers.specs.Walk.{TakesItem}
use Rattle.asn1_rs.specs.Lists.{CheckedGives, EndsItems, GivesItems, SomeRefuses}
use Rattle.asn1_headers.specs.declared.error.Error.{Error}
use Rattle.asn1_headers.specs.declared.error.Error.TheVariants as errors
use Rattle.asn1_headers.specs.declared.error.SerializeError.{SerializeError}
use Rattle.asn1_headers.specs.Writer.{Wrote, SumsWritten, MayRefuse, WriterState}
use Rattle.asn1_rs.specs.ToDer.{SumsCounts, MayRefuseCount, Refuses, RefusesCount, HasNone}
use Rattle.asn1_headers.specs.Laws.Writing.{Wrote_front, Wrote_then_err, Wrote_sum, MayRefuse_more}

-- one more item of a walk, and the refusal that ends it
pub items_push : {S T E : Type 0} (steps : S → Option (Result T E) → S → Type 0) (xs : List T) (s t u : S) (x : T) →
    Yields steps s (map Ok xs) t → steps t (Some (Ok x)) u → Yields steps s (map Ok (xs ++ x ∷ [])) u
items_push steps [] s t u x y n = (u, subst (λ (k : _). steps k (Some (Ok x)) u) (sym y) n, refl)
items_push steps (a ∷ xs) s t u x y n = (y.0, y.1, items_push steps xs y.0 t u x y.2 n)

pub items_end : {S T E : Type 0} (steps : S → Option (Result T E) → S → Type 0) (xs : List T) (s t u : S) (e : E) →
    Yields steps s (map Ok xs) t → steps t (Some (Err e)) u → Yields steps s (map Ok xs ++ Err e ∷ []) u
items_end steps [] s t u e y n = (u, subst (λ (k : _). steps k (Some (Err e)) u) (sym y) n, refl)
items_end steps (a ∷ xs) s t u e y n = (y.0, y.1, items_end steps xs y.0 t u e y.2 n)

pub MayRefuseCount_more : (e : Error) (allocates : Bool) (m n : ℕ) → m ≤ n → MayRefuseCount allocates m e →
    MayRefuseCount allocates n e
MayRefuseCount_more errors.InvalidLength allocates m n h p = omega arith
MayRefuseCount_more errors.OutOfMemory allocates m n h p = p
MayRefuseCount_more _ allocates m n h p = absurd p

-- an item between those before it and those after it
pub flat_map_at : {X : Type 0} (f : X → List ℕ) (xs : List X) (i : ℕ) (d : X) → i < length xs →
    flat_map f xs ≡ (flat_map f (take i xs) ++ f (get_or xs i d)) ++ flat_map f (drop (suc i) xs)
flat_map_at f xs i d h =
    ap (λ ys. flat_map f ys) (split_at xs i d h) ∙ flat_map-append f (take i xs) (get_or xs i d ∷ drop (suc i) xs)
    ∙ ap (λ z. flat_map f (take i xs) ++ z) (flat_map-cons f (get_or xs i d) (drop (suc i) xs))
    ∙ sym (append_assoc (flat_map f (take i xs)) (f (get_or xs i d)) (flat_map f (drop (suc i) xs)))

module _ {X : Type 0} (f : X → List ℕ) (xs : List X) (i : ℕ) (x : X) (h : i < length xs) (at : x ≡ get_or xs i x) where
  -- what holds of each
  pub item_all : (P : X → Type 0) → All P xs → P x
  item_all P a = subst P (sym at) (a i x h)

  -- the item is among the octets
  pub item_at : flat_map f xs ≡ (flat_map f (take i xs) ++ f x) ++ flat_map f (drop (suc i) xs)
  item_at = flat_map_at f xs i x h ∙ ap (λ y. (flat_map f (take i xs) ++ f y) ++ flat_map f (drop (suc i) xs)) (sym at)

  pub item_le : length (flat_map f (take i xs)) + length (f x) ≤ length (flat_map f xs)
  item_le = rw item_at (simp length-append (omega arith))

  -- an item's writing was refused
  pub Wrote_item_err : {n : ℕ} {e : SerializeError} {a b c : WriterState} → Wrote (flat_map f (take i xs)) a b (Ok n) →
      Wrote (f x) b c (Err e) → Wrote (flat_map f xs) a c (Err e)
  Wrote_item_err p q = rw item_at (Wrote_front (flat_map f (drop (suc i) xs)) (Wrote_then_err p q))

  -- the item was written, and the sum was refused
  pub Wrote_item_sum : {n m : ℕ} {e : SerializeError} {a b c : WriterState} →
      Wrote (flat_map f (take i xs)) a b (Ok n) → Wrote (f x) b c (Ok m) → SumsWritten n m (Err e) →
      Wrote (flat_map f xs) a c (Err e)
  Wrote_item_sum {n} {m} {e} p q s = rw item_at (Wrote_front (flat_map f (drop (suc i) xs)) (Wrote_sum (Err e) p q s))

  pub MayRefuse_item : (e : SerializeError) (allocates : Bool) → MayRefuse allocates (length (f x)) e →
      MayRefuse allocates (length (flat_map f xs)) e
  MayRefuse_item e allocates p = MayRefuse_more e allocates _ _ (let l = item_le in omega arith) p

  pub MayRefuse_item_sum : {n m : ℕ} (e : SerializeError) (allocates : Bool) {a b c : WriterState} →
      Wrote (flat_map f (take i xs)) a b (Ok n) → Wrote (f x) b c (Ok m) → SumsWritten n m (Err e) →
      MayRefuse allocates (length (flat_map f xs)) e
  MayRefuse_item_sum e allocates p q s = rw s.0 (let l = item_le in omega (arith, p.ok.1, q.ok.1, s.1))

  pub MayRefuseCount_item : (e : Error) (allocates : Bool) → MayRefuseCount allocates (length (f x)) e →
      MayRefuseCount allocates (length (flat_map f xs)) e
  MayRefuseCount_item e allocates p = MayRefuseCount_more e allocates _ _ (let l = item_le in omega arith) p

  pub MayRefuseCount_item_sum : {n m : ℕ} (e : Error) (allocates : Bool) → n ≡ length (flat_map f (take i xs)) →
      m ≡ length (f x) → SumsCounts n m (Err e) → MayRefuseCount allocates (length (flat_map f xs)) e
  MayRefuseCount_item_sum e allocates p q s = rw s.0 (let l = item_le in omega (arith, s.1))

  pub item_next : flat_map f (take (i + 1) xs) ≡ flat_map f (take i xs) ++ f x
  item_next = ap (λ ys. flat_map f ys) (take_more xs i x h) ∙ flat_map-append f (take i xs) (get_or xs i x ∷ [])
      ∙ ap (λ (z : List ℕ). flat_map f (take i xs) ++ z)
      (flat_map-cons f (get_or xs i x) [] ∙ append-nil (f (get_or xs i x)) ∙ ap f (sym at))

  pub count_next : (n m k : ℕ) → n ≡ length (flat_map f (take i xs)) → m ≡ length (f x) → SumsCounts n m (Ok k) →
      k ≡ length (flat_map f (take (i + 1) xs))
  count_next n m k p q s = rw item_next (simp length-append (omega (arith, p, q, s)))

  pub Wrote_next : {n m k : ℕ} {a b c : WriterState} → Wrote (flat_map f (take i xs)) a b (Ok n) →
      Wrote (f x) b c (Ok m) → SumsWritten n m (Ok k) → Wrote (flat_map f (take (i + 1) xs)) a c (Ok k)
  Wrote_next {n} {m} {k} p q s = rw item_next (Wrote_sum (Ok k) p q s)

  pub some_refuses : {E : Type 0} (refuses : X → E → Type 0) (e : E) → refuses x e → SomeRefuses refuses xs e
  some_refuses refuses e o = (i, x, h, sym at, o)

  pub Refuses_item : (e : SerializeError) (allocates : Bool) (refuses : X → SerializeError → Type 0) →
      Refuses allocates (length (f x)) (refuses x) e →
      Refuses allocates (length (flat_map f xs)) (SomeRefuses refuses xs) e
  Refuses_item e allocates refuses (inl m) = inl (MayRefuse_item e allocates m)
  Refuses_item e allocates refuses (inr o) = inr (some_refuses refuses e o)

  pub RefusesCount_item : (e : Error) (allocates : Bool) (refuses : X → Error → Type 0) →
      RefusesCount allocates (length (f x)) (refuses x) e →
      RefusesCount allocates (length (flat_map f xs)) (SomeRefuses refuses xs) e
  RefusesCount_item e allocates refuses (inl m) = inl (MayRefuseCount_item e allocates m)
  RefusesCount_item e allocates refuses (inr o) = inr (some_refuses refuses e o)

-- a slice's iterator gives its items, and one of a set its members
pub slice_gives_items : {A : Type 0} {s : _} (xs : List A) → iter_rest s ≡ xs →
    GivesItems fronts (λ (r : Bor A) (x : A). x ≡ r.now) s xs
slice_gives_items xs e = record { item = λ r. r.now; only = λ r x h. h; gives = (YieldsList-from_slice xs e).runs }

pub keys_give_items : {A : Type 0} {s : List A} (xs : List A) → s ≡ xs →
    GivesItems (TakesFirst deref) (λ (r : Bor A) (x : A). x ≡ r.now) s xs
keys_give_items xs e = record { item = λ r. r.now; only = λ r x h. h; gives = (YieldsList-from_rest xs e).runs }

-- what a `for` over an iterator has seen of its items: in a turn the next one, and all of them where it ends
module _ {S R T : Type 0} {steps : S → Option R → S → Type 0} {sees : R → T → Type 0} {first : S} {xs : List T}
    (gives : GivesItems steps sees first xs)
    (begin now next : S) (start : begin ≡ first) (seen : List R) (led : Yields steps begin seen now) (answer : Option R)
    (step : steps now answer next) where
  list : YieldsList steps gives.item begin xs
  list = record { runs = subst (λ (z : S). AlwaysYields steps gives.item z xs) (sym start) gives.gives }

  pub item_given : (r : R) → answer ≡ Some r → (x : T) → sees r x →
      (length seen < length xs) × (x ≡ get_or xs (length seen) x)
  item_given r is x shown =
      let turn = YieldsList-turn list seen now led answer next r is step in
      (turn.0, subst (λ (z : T). z ≡ get_or xs (length seen) z) (sym (gives.only r x shown)) turn.1)

  pub all_given : answer ≡ None → length xs ≤ length seen
  all_given is = let end = YieldsList-end list seen now led answer next is step in omega (arith, end.1)

pub one_longer : {X : Type 0} (xs : List X) (x : X) → length (xs ++ x ∷ []) ≡ length xs + 1
one_longer xs x = length-append xs (x ∷ [])

-- one more item that is not refused
pub none_more : {X E : Type 0} (refuses : X → E → Type 0) (xs : List X) (i : ℕ) (x : X) → i < length xs →
    x ≡ get_or xs i x → All (λ x. HasNone (refuses x)) (take i xs) → HasNone (refuses x) →
    All (λ x. HasNone (refuses x)) (take (i + 1) xs)
none_more refuses xs i x h at a n =
    All-more (λ x. HasNone (refuses x)) xs i x h a (subst (λ z. HasNone (refuses z)) at n)

pub none_of_all : {X E : Type 0} (refuses : X → E → Type 0) (xs : List X) (i : ℕ) → length xs ≤ i →
    All (λ x. HasNone (refuses x)) (take i xs) → HasNone (SomeRefuses refuses xs)
none_of_all refuses xs i l a = none_refuses refuses xs (subst (All (λ x. HasNone (refuses x))) (take_all i xs l) a)

-- The first element that was checked, as a step of a walk over checked elements.
converted_itself : (r : Refusal Error) → Converted (λ (x y : Error). y ≡ x) r r
converted_itself (truncated n) = refl
converted_itself (refused e) = (e, refl, refl)
converted_itself (failed e) = (e, refl, refl)

pub element_checked : (check : Parts → Result (Unit {0}) Error → Type 0) (octets rest : List ℕ) (item : Any) →
    BeginsWithAny IsDerElement octets item rest → check (parts_of item) (Ok tt) →
    CheckedGives check octets (Ok (rest, item))
element_checked check octets rest item f h = (item, f, h, (refl, refl))

pub check_failed : (check : Parts → Result (Unit {0}) Error → Type 0) (octets rest : List ℕ) (item : Any) (e : Error) →
    BeginsWithAny IsDerElement octets item rest → check (parts_of item) (Err e) →
    (r : Refusal Error) × CheckedGives check octets (Err r) × FlattenedTo (λ x y. y ≡ x) (λ x y. y ≡ x) r e
check_failed check octets rest item e f h = (refused e, inr (item, rest, f, inl (e, h, (e, refl, refl))), refl)

pub element_failed : (check : Parts → Result (Unit {0}) Error → Type 0) (octets : List ℕ) (r : Refusal Error)
    (e : Error) → Refused DerElementFault der_refusal octets r → FlattenedTo (λ x y. y ≡ x) (λ x y. y ≡ x) r e →
    (r : Refusal Error) × CheckedGives check octets (Err r) × FlattenedTo (λ x y. y ≡ x) (λ x y. y ≡ x) r e
element_failed check octets r e f h = (
  r,
  inl (f.0, f.1, subst (λ (q : Refusal Error). Converted (λ (x y : Error). y ≡ x) q r) f.2 (converted_itself r)),
  h,
)

-- what follows it is shorter
pub checked_less : (check : Parts → Result (Unit {0}) Error → Type 0) (left rest : List ℕ) (item : Any) →
    CheckedGives check left (Ok (rest, item)) → length rest < length left
checked_less check left rest item g =
    let f = g.1.front in
    omega (arith, definite_element_two der_rule f.word (parts_of g.0) f.fits, ap length f.is, length-append f.word rest)

-- one more element that was checked
pub checked_push : (check : Parts → Result (Unit {0}) Error → Type 0) (content left rest : List ℕ) → left ≢ [] →
    (items : List Any) × Yields (TakesItem (CheckedGives check) (λ (x y : Error). y ≡ x)) content (map Ok items) left →
    (item : Any) × CheckedGives check left (Ok (rest, item)) →
    (items : List Any) × Yields (TakesItem (CheckedGives check) (λ (x y : Error). y ≡ x)) content (map Ok items) rest
checked_push check content left rest n y g = (
  y.0 ++ g.0 ∷ [],
  items_push (TakesItem (CheckedGives check) (λ (x y : Error). y ≡ x)) y.0 content left rest g.0 y.1 (
    n,
    g.1,
    checked_less check left rest g.0 g.1,
  ),
)

pub checked_end : (check : Parts → Result (Unit {0}) Error → Type 0) (content left : List ℕ) (e : Error) → left ≢ [] →
    (items : List Any) × Yields (TakesItem (CheckedGives check) (λ (x y : Error). y ≡ x)) content (map Ok items) left →
    (r : Refusal Error) × CheckedGives check left (Err r) × FlattenedTo (λ x y. y ≡ x) (λ x y. y ≡ x) r e →
    EndsItems (CheckedGives check) (λ (x y : Error). y ≡ x) content e
checked_end check content left e n y g = (
  y.0,
  [],
  items_end (TakesItem (CheckedGives check) (λ (x y : Error). y ≡ x)) y.0 content left [] e y.1 (
    n,
    (Err g.0, g.1, g.2),
    refl,
  ),
)

pub some_octets : (octets : List ℕ) (b : Bool) → b ≡ false → b ≡ (length octets == 0) → octets ≢ []
some_octets octets b f e n = let k : (length octets == 0) ≡ true = ap (λ (o : List ℕ). length o == 0) n in cc

no_octets : (octets : List ℕ) (b : Bool) → b ≡ true → b ≡ (length octets == 0) → octets ≡ []
no_octets [] b f e = refl
no_octets (x ∷ xs) b f e = let k : suc (length xs) ≡ 0 = grind (arith, nat_tests) in absurd (omega arith)

-- all were checked
pub checked_all : (check : Parts → Result (Unit {0}) Error → Type 0) (content left : List ℕ) (b : Bool) → b ≡ true →
    b ≡ (length left == 0) →
    (items : List Any) × Yields (TakesItem (CheckedGives check) (λ (x y : Error). y ≡ x)) content (map Ok items) left →
    (items : List Any) × Yields (TakesItem (CheckedGives check) (λ (x y : Error). y ≡ x)) content (map Ok items) []
checked_all check content left b t e y = subst (λ (z : List ℕ). (items : List Any) ×
    Yields (TakesItem (CheckedGives check) (λ (x y : Error). y ≡ x)) content (map Ok items) z) (no_octets left b t e) y

-- An item is the first one, where those before it have what that one has not.
pub only_first : {X : Type 0} (Q : X → Type 0) (x : X) (xs : List X) (i : ℕ) (y : X) → y ≡ get_or (x ∷ xs) i y →
    All Q (take i (x ∷ xs)) → (Q x → ⊥) → y ≡ x
only_first Q x xs zero y at all none = at
only_first Q x xs (suc i) y at all none = absurd (none (All-head Q x (take i xs) all))
