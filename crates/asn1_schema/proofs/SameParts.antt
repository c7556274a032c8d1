-- Lists that are the same have the same parts where they are cut at one place.
use Rattle.std.proofs.Common.{◌≡◌, ap, refl, List, [], ◌∷◌, ◌++◌, length, length-append, arith}

pub same_parts : {A : Type 0} (xs ys u w : List A) → length xs ≡ length ys → xs ++ u ≡ ys ++ w → (xs ≡ ys) × (u ≡ w)
same_parts [] [] u w l e = (refl, e)
same_parts [] (y ∷ ys) u w l e = absurd (omega (arith, l))
same_parts (x ∷ xs) [] u w l e = absurd (omega (arith, l))
same_parts (x ∷ xs) (y ∷ ys) u w l e =
    let first : x ≡ y = cc in
    let rest : xs ++ u ≡ ys ++ w = cc in
    let others = same_parts xs ys u w (omega (arith, l)) rest in
    let same = others.0 in
    (cc, others.1)

-- so counted from the end
pub same_ends : {A : Type 0} (xs ys u w : List A) → length u ≡ length w → xs ++ u ≡ ys ++ w → (xs ≡ ys) × (u ≡ w)
same_ends {A} xs ys u w l e =
    let all : length (xs ++ u) ≡ length (ys ++ w) = ap (λ (z : List A). length z) e in
    let m = length-append xs u in
    let n = length-append ys w in
    same_parts xs ys u w (omega (arith, l, all, m, n)) e

pub same_last : {A : Type 0} (xs ys : List A) (x y : A) → xs ++ x ∷ [] ≡ ys ++ y ∷ [] → (xs ≡ ys) × (x ≡ y)
same_last xs ys x y e =
    let p = same_ends xs ys (x ∷ []) (y ∷ []) refl e in
    let last = p.1 in
    (p.0, cc)
