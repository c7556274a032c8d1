-- A list in which no value stands twice, in another order.
use Rattle.std.specs.Prelude.{◌≡◌, ◌⊎◌, ℕ, ◌<◌, List, [], ◌∷◌, length, Contains, swap, remove}
use Rattle.std.specs.List.Sorted.{IsPermutation}
use Rattle.std.proofs.Common.{refl, sym, ◌∙◌, ap, subst, arith, get_or, zero, suc, ⊎_elim, inl, inr}
use Rattle.std.proofs.lemmas.List.Edits.{Swapped, swapped_from_swap, length-swap}
use Rattle.std.proofs.lemmas.List.Sorted.{IsPermutation-keeps, IsPermutation-refl, IsPermutation-sym}
use Rattle.std.proofs.lemmas.List.Sorted.{IsPermutation-trans, IsPermutation-cons, Contains-permutation}
use Rattle.std.proofs.lemmas.List.Sorted.{IsPermutation-remove}
use Rattle.x690.specs.Collections.{AllDiffer, HaveSame}

-- equal values stand at one place
abbrev Apart : {V : Type 0} → List V → Type 0
Apart {V} xs = (i j : ℕ) (d : V) → i < length xs → j < length xs → get_or xs i d ≡ get_or xs j d → i ≡ j

same_or_not : (a b : ℕ) → (a ≡ b) ⊎ (a ≡ b → ⊥)
same_or_not zero zero = inl refl
same_or_not zero (suc b) = inr (λ e. omega (arith, e))
same_or_not (suc a) zero = inr (λ e. omega (arith, e))
same_or_not (suc a) (suc b) = ⊎_elim (λ e. inl (ap suc e)) (λ n. inr (λ e. n (omega (arith, e)))) (same_or_not a b)

images_differ : (a b i j s t : ℕ) → (i ≡ j → ⊥) → (i ≡ a → s ≡ b) → (i ≡ b → s ≡ a) →
    ((i ≡ a → ⊥) → (i ≡ b → ⊥) → s ≡ i) → (j ≡ a → t ≡ b) → (j ≡ b → t ≡ a) →
    ((j ≡ a → ⊥) → (j ≡ b → ⊥) → t ≡ j) → s ≡ t → ⊥
images_differ a b i j s t ne p q r x y z e = grind arith

module _ {V : Type 0} where
  Apart-from_differ : (xs : List V) → AllDiffer xs → Apart xs
  Apart-from_differ [] h i j d l m e = absurd (omega (arith, l))
  Apart-from_differ (x ∷ xs) h zero zero d l m e = refl
  Apart-from_differ (x ∷ xs) h zero (suc j) d l m e =
      absurd (h.0 (j, omega (arith, m), at xs j d (omega (arith, m)) ∙ sym e))
    where
      at : (xs : List V) (j : ℕ) (d : V) → j < length xs → get_or xs j x ≡ get_or xs j d
      at [] j d m = absurd (omega (arith, m))
      at (y ∷ xs) zero d m = refl
      at (y ∷ xs) (suc j) d m = at xs j d (omega (arith, m))
  Apart-from_differ (x ∷ xs) h (suc i) zero d l m e =
      absurd (h.0 (i, omega (arith, l), at xs i d (omega (arith, l)) ∙ e))
    where
      at : (xs : List V) (j : ℕ) (d : V) → j < length xs → get_or xs j x ≡ get_or xs j d
      at [] j d m = absurd (omega (arith, m))
      at (y ∷ xs) zero d m = refl
      at (y ∷ xs) (suc j) d m = at xs j d (omega (arith, m))
  Apart-from_differ (x ∷ xs) h (suc i) (suc j) d l m e =
      ap suc (Apart-from_differ xs h.1 i j d (omega (arith, l)) (omega (arith, m)) e)

  differ_from_Apart : (xs : List V) → Apart xs → AllDiffer xs
  differ_from_Apart [] h = tt
  differ_from_Apart (x ∷ xs) h = (
    λ c. let e : suc c.0 ≡ 0 = h (suc c.0) 0 x (omega (arith, c.1)) (omega arith) c.2 in absurd (omega (arith, e)),
    differ_from_Apart xs (λ i j d l m e.
        let k : suc i ≡ suc j = h (suc i) (suc j) d (omega (arith, l)) (omega (arith, m)) e in omega (arith, k)),
  )

  -- where a place went when a and b changed places
  moved_place : (f g : ℕ → V) (a b n : ℕ) → Swapped f g a b → a < n → b < n → (p : ℕ) → p < n →
      (s : ℕ) × (s < n) × (g p ≡ f s) × (p ≡ a → s ≡ b) × (p ≡ b → s ≡ a) × ((p ≡ a → ⊥) → (p ≡ b → ⊥) → s ≡ p)
  moved_place f g a b n sw la lb p lp = ⊎_elim
      (λ ea. (b, lb, ap g ea ∙ sw.0, (λ _. refl), (λ eb. omega (arith, ea, eb)), (λ u v. absurd (u ea))))
      (λ na. ⊎_elim
      (λ eb. (a, la, ap g eb ∙ sw.1, (λ e. absurd (na e)), (λ _. refl), (λ u v. absurd (v eb))))
      (λ nb. (p, lp, sw.2 p na nb, (λ e. absurd (na e)), (λ e. absurd (nb e)), (λ u v. refl)))
      (same_or_not p b))
      (same_or_not p a)

  Apart-permutation : (xs ys : List V) → IsPermutation xs ys → Apart xs → Apart ys
  Apart-permutation xs ys p start = IsPermutation-keeps xs Apart start (λ l a b la lb h i j d li lj e.
      let n = length l in
      let long : length (swap l a b) ≡ length l = length-swap l a b in
      let sw = swapped_from_swap l (swap l a b) a b d la lb refl in
      let u = moved_place _ _ a b n sw la lb i (omega (arith, long, li)) in
      let v = moved_place _ _ a b n sw la lb j (omega (arith, long, lj)) in
      let same : u.0 ≡ v.0 = h u.0 v.0 d u.1 v.1 (sym u.2 ∙ e ∙ v.2) in
      ⊎_elim (λ k. k) (λ ne. absurd (images_differ a b i j u.0 v.0 ne u.3 u.4 u.5 v.3 v.4 v.5 same))
      (same_or_not i j)) ys p

  -- Values that all differ do so in any order.
  pub AllDiffer-permutation : (xs ys : List V) → IsPermutation xs ys → AllDiffer xs → AllDiffer ys
  AllDiffer-permutation xs ys p h = differ_from_Apart ys (Apart-permutation xs ys p (Apart-from_differ xs h))

  contains_cases : (x : V) (xs : List V) (v : V) → Contains (x ∷ xs) v → (x ≡ v) ⊎ Contains xs v
  contains_cases x xs v c = at c.0 c.1 c.2
    where
      at : (k : ℕ) → k < length (x ∷ xs) → get_or (x ∷ xs) k v ≡ v → (x ≡ v) ⊎ Contains xs v
      at zero l e = inl e
      at (suc k) l e = inr (k, omega (arith, l), e)

  contains_later : (x : V) (xs : List V) (v : V) → Contains xs v → Contains (x ∷ xs) v
  contains_later x xs v c = (suc c.0, omega (arith, c.1), c.2)

  -- lists of the same values, each once, are equal up to order
  pub permutation_from_same : (xs ys : List V) → AllDiffer xs → AllDiffer ys → HaveSame xs ys → IsPermutation xs ys
  permutation_from_same [] [] h k s = IsPermutation-refl []
  permutation_from_same [] (y ∷ ys) h k s = let c = (s y).1 (0, omega arith, refl) in absurd (omega (arith, c.1))
  permutation_from_same (x ∷ xs) ys h k s =
      IsPermutation-trans (x ∷ xs) (x ∷ zs) ys
      (IsPermutation-cons x xs zs (permutation_from_same xs zs h.1 front.1 (λ v. (to v, from v))))
      (IsPermutation-sym ys (x ∷ zs) moved)
    where
      c : Contains ys x
      c = (s x).0 (0, omega arith, refl)

      zs : List V
      zs = remove ys c.0

      moved : IsPermutation ys (x ∷ zs)
      moved = IsPermutation-remove ys c.0 x c.1 (sym c.2)

      front : AllDiffer (x ∷ zs)
      front = AllDiffer-permutation ys (x ∷ zs) moved k

      to : (v : V) → Contains xs v → Contains zs v
      to v d = ⊎_elim (λ e. absurd (h.0 (subst (Contains xs) (sym e) d))) (λ t. t)
          (contains_cases x zs v (Contains-permutation ys (x ∷ zs) v moved ((s v).0 (contains_later x xs v d))))

      from : (v : V) → Contains zs v → Contains xs v
      from v d = ⊎_elim (λ e. absurd (front.0 (subst (Contains zs) (sym e) d))) (λ t. t) (contains_cases x xs v ((s v).1
          (Contains-permutation (x ∷ zs) ys v (IsPermutation-sym ys (x ∷ zs) moved) (contains_later x zs v d))))
