-- Parts of octets that are swapped.
use Rattle.std.proofs.Common.{◌≡◌, ◌∙◌, ap, sym, ℕ, ◌+◌, ◌≤◌, List, ◌++◌, length, append_assoc}
use Rattle.std.specs.Prelude.{take, drop}
use Rattle.std.proofs.lemmas.List.{length-take-le}
use Rattle.std.proofs.Math.Seq.{drop-append_seam, drop-append-add, take-append_seam, take-append-add}

behind : (a : ℕ) (front others : List ℕ) → a ≡ length front → drop a (front ++ others) ≡ others
behind a front others e = ap (λ (n : ℕ). drop n (front ++ others)) e ∙ drop-append_seam front others

pub swapped : (a k n : ℕ) (xs ys one other rest : List ℕ) → a ≤ length xs → k ≡ length one + length other →
    n ≡ length one → drop a xs ≡ one ++ (other ++ rest) →
    ys ≡ drop n (take k (drop a xs)) ++ take n (take k (drop a xs)) →
    drop a (take a xs ++ (ys ++ drop k (drop a xs))) ≡ other ++ (one ++ rest)
swapped a k n xs ys one other rest fits l m e y =
    let middle : take k (drop a xs) ≡ one ++ other =
    (λ i. take (l i) (e i)) ∙ (take-append-add one (other ++ rest) (length other)
    ∙ ap (λ (z : List ℕ). one ++ z) (take-append_seam other rest)) in
    let last : drop k (drop a xs) ≡ rest =
    (λ i. drop (l i) (e i)) ∙ (drop-append-add one (other ++ rest) (length other) ∙ drop-append_seam other rest) in
    let turned : ys ≡ other ++ one =
    y ∙ λ i. ((λ j. drop (m j) (middle j)) ∙ drop-append_seam one other) i
    ++ ((λ j. take (m j) (middle j)) ∙ take-append_seam one other) i in
    behind a (take a xs) (ys ++ drop k (drop a xs)) (sym (length-take-le a xs fits))
    ∙ ((λ i. turned i ++ last i) ∙ append_assoc other one rest)
