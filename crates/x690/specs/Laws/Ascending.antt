-- Laws of strings in ascending order.
pub mod Arranged
use Rattle.std.specs.Prelude.{◌≡◌, ℕ, ◌+◌, ◌<◌, true, false, cond, List, [], ◌∷◌, ◌++◌, bytes_eq}
use Rattle.std.specs.List.{AllByRecursion}
use Rattle.std.specs.List.Sorted.{IsPermutation}
use Rattle.std.proofs.Common.{refl, sym, ◌∙◌, subst, ap, arith, get_or, zero, suc, add-one}
use Rattle.std.proofs.lemmas.List.Sorted.{sum_by-IsPermutation}
use Rattle.std.proofs.lemmas.List.Recursion.{is_sum_by}
use Rattle.std.proofs.lemmas.Slice.Eq.{bytes_eq-Decides}
use Rattle.x690.specs.Octets.{dictionary_order, IsBeforeOrSame}
use Rattle.x690.specs.Ascending.{Ascending}
use Rattle.x690.specs.Laws.Octets.Order.{before_or_same_antisymmetric, before_or_same_itself, before_or_same_transitive}

-- No strings are in ascending order.
pub ascending_none : Ascending []
ascending_none k d l h = absurd (omega (arith, h))

-- One string is.
pub ascending_one : (x : List ℕ) → Ascending (x ∷ [])
ascending_one x k d l h = absurd (omega (arith, h))

-- A string before ascending strings, and not behind the first of them, ascends with them.
pub ascending_cons : (x y : List ℕ) (ys : List (List ℕ)) → IsBeforeOrSame x y → Ascending (y ∷ ys) →
    Ascending (x ∷ y ∷ ys)
ascending_cons x y ys h up zero d l k = h
ascending_cons x y ys h up (suc k) d l m = rw add-one (let u : IsBeforeOrSame (get_or (y ∷ ys) k d)
    (get_or (y ∷ ys) (k + 1) d) = up k d (omega arith) (omega (arith, m)) in rw add-one at u)

-- Ascending strings ascend behind the first of them.
pub ascending_rest : (x : List ℕ) (xs : List (List ℕ)) → Ascending (x ∷ xs) → Ascending xs
ascending_rest x xs up k d l h =
    let u : IsBeforeOrSame (get_or (x ∷ xs) (suc k) d) (get_or (x ∷ xs) (suc k + 1) d) =
    up (suc k) d (omega arith) (omega (arith, h)) in
    rw add-one (rw add-one at u)

-- The first of ascending strings is not behind the second.
pub ascending_first : (x y : List ℕ) (ys : List (List ℕ)) → Ascending (x ∷ y ∷ ys) → IsBeforeOrSame x y
ascending_first x y ys up = up 0 [] (omega arith) (omega arith)

-- each string is before each later one, or the same
pub ascending_later : (front between rest : List (List ℕ)) (x y : List ℕ) →
    Ascending (front ++ x ∷ between ++ y ∷ rest) → IsBeforeOrSame x y
ascending_later (f ∷ front) between rest x y up =
    ascending_later front between rest x y (ascending_rest f (front ++ x ∷ between ++ y ∷ rest) up)
ascending_later [] [] rest x y up = ascending_first x y rest up
ascending_later [] (b ∷ between) rest x y up =
    before_or_same_transitive x b y (ascending_first x b (between ++ y ∷ rest) up)
    (ascending_later [] between rest b y (ascending_rest x (b ∷ between ++ y ∷ rest) up))

-- the first is before each one, or the same
first_lowest : (x : List ℕ) (xs : List (List ℕ)) → Ascending (x ∷ xs) → AllByRecursion (λ y. IsBeforeOrSame x y) xs
first_lowest x [] up = tt
first_lowest x (y ∷ ys) up =
    let first = ascending_first x y ys up in
    (first, later x y ys first (first_lowest y ys (ascending_rest x (y ∷ ys) up)))
  where
    later : (x y : List ℕ) (zs : List (List ℕ)) → IsBeforeOrSame x y → AllByRecursion (λ z. IsBeforeOrSame y z) zs →
        AllByRecursion (λ z. IsBeforeOrSame x z) zs
    later x y [] h a = tt
    later x y (z ∷ zs) h a = (before_or_same_transitive x y z h a.0, later x y zs h a.1)

-- how often o stands in os
abbrev occurs : List ℕ → List (List ℕ) → ℕ
occurs o [] = 0
occurs o (p ∷ ps) = cond (bytes_eq o p) 1 0 + occurs o ps

occurs_moved : (os ps : List (List ℕ)) → IsPermutation os ps → (o : List ℕ) → occurs o ps ≡ occurs o os
occurs_moved os ps h o =
    is_sum_by (occurs o) (λ p. cond (bytes_eq o p) 1 0) refl (λ _ _. refl) ps
    ∙ sum_by-IsPermutation (λ p. cond (bytes_eq o p) 1 0) os ps h
    ∙ sym (is_sum_by (occurs o) (λ p. cond (bytes_eq o p) 1 0) refl (λ _ _. refl) os)

one_itself : (o : List ℕ) → ◌≡◌ {A = ℕ} (cond (bytes_eq o o) 1 0) 1
one_itself o = ap (λ b. cond b 1 0) ((bytes_eq-Decides o o).1 refl)

-- what holds of each string of ps holds of one that occurs there
holds_where_occurs : (P : List ℕ → Type 0) (o : List ℕ) (ps : List (List ℕ)) → AllByRecursion P ps →
    0 < occurs o ps → P o
holds_where_occurs P o [] h k = absurd (omega (arith, k))
holds_where_occurs P o (p ∷ ps) h k =
    elim (bytes_eq o p) as (λ b. bytes_eq o p ≡ b → 0 < cond b 1 0 + occurs o ps → P o) [
      | true ↦ λ e _. subst P (sym ((bytes_eq-Decides o p).0 e)) h.0
      | false ↦ λ _ k. holds_where_occurs P o ps h.1 (omega (arith, k))
    ] refl k

same_heads : (x y : List ℕ) (xs ys : List (List ℕ)) → Ascending (x ∷ xs) → Ascending (y ∷ ys) →
    ((o : List ℕ) → occurs o (x ∷ xs) ≡ occurs o (y ∷ ys)) → x ≡ y
same_heads x y xs ys up vp h =
    before_or_same_antisymmetric x y
    (holds_where_occurs (IsBeforeOrSame x) y (x ∷ xs) (
      before_or_same_itself x,
      first_lowest x xs up,
    ) (omega (arith, h y, one_itself y)))
    (holds_where_occurs (IsBeforeOrSame y) x (y ∷ ys) (
      before_or_same_itself y,
      first_lowest y ys vp,
    ) (omega (arith, h x, one_itself x)))

same_strings : (xs ys : List (List ℕ)) → Ascending xs → Ascending ys →
    ((o : List ℕ) → occurs o xs ≡ occurs o ys) → xs ≡ ys
same_strings [] [] up vp h = refl
same_strings [] (y ∷ ys) up vp h = absurd (omega (arith, h y, one_itself y))
same_strings (x ∷ xs) [] up vp h = absurd (omega (arith, h x, one_itself x))
same_strings (x ∷ xs) (y ∷ ys) up vp h =
    let e : x ≡ y = same_heads x y xs ys up vp h in
    λ i. e i ∷ same_strings xs ys (ascending_rest x xs up) (ascending_rest y ys vp)
    (λ o. tails o (subst (λ z. occurs o (x ∷ xs) ≡ occurs o (z ∷ ys)) (sym e) (h o))) i
  where
    tails : (o : List ℕ) → occurs o (x ∷ xs) ≡ occurs o (x ∷ ys) → occurs o xs ≡ occurs o ys
    tails o q = omega (arith, q)

-- strings have one ascending arrangement
pub Ascending-unique : (xs ys : List (List ℕ)) → IsPermutation xs ys → Ascending xs → Ascending ys → xs ≡ ys
Ascending-unique xs ys p up vp = same_strings xs ys up vp (λ o. sym (occurs_moved xs ys p o))
