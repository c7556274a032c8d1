-- Sorted slices of strings.
use Rattle.std.specs.Prelude.{◌≡◌, ℕ, ◌+◌, ◌<◌, List, [], ◌∷◌, length, map}
use Rattle.std.specs.List.Sorted.{IsSortedBy, IsPermutation}
use Rattle.std.specs.Ordering.{nat_cmp, is_lt}
use Rattle.std.specs.Cmp.Lexicographic.{slice_cmp}
use Rattle.std.proofs.Common.{subst, arith}
use Rattle.std.proofs.lemmas.List.{get_or-map, length-map}
use Rattle.std.proofs.lemmas.List.Sorted.{IsPermutation-map}
use Rattle.x690.specs.Ascending.{Ascending, arranged}
use Rattle.x690.specs.Laws.Ascending.Arranged.{only_arranged}

Ascending-map : {X : Type 0} (f : X → List ℕ) (xs : List X) →
    IsSortedBy (λ x y. is_lt (slice_cmp nat_cmp (f x) (f y))) xs → Ascending (map f xs)
Ascending-map f [] up k d l h = absurd (omega (arith, h))
Ascending-map f (x ∷ xs) up k d l h =
    let m : k + 1 < length (x ∷ xs) = subst (λ n. k + 1 < n) (length-map (x ∷ xs) f) h in
    rw (get_or-map f (x ∷ xs) (k + 1) x d m) (rw (get_or-map f (x ∷ xs) k x d (omega (arith, m))) (up k x l m))

pub sorted_is_arranged : {X : Type 0} (f : X → List ℕ) (xs ys : List X) → IsPermutation xs ys →
    IsSortedBy (λ x y. is_lt (slice_cmp nat_cmp (f x) (f y))) ys → map f ys ≡ arranged (map f xs)
sorted_is_arranged f xs ys p up =
    only_arranged (map f xs) (map f ys) (IsPermutation-map f xs ys p) (Ascending-map f ys up)
