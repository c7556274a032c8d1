-- Texts of arcs.
use Rattle.std.proofs.Common.{◌≡◌, ◌≢◌, ℕ, suc, ◌+◌, ◌%◌, ◌^◌, ◌<◌, List, [], ◌∷◌, ◌++◌, length, decimal, refl, ap, sym}
use Rattle.std.proofs.Common.{◌∙◌, arith}
use Rattle.std.specs.List.{All}
use Rattle.std.proofs.lemmas.Fmt.{decimal_by_steps, decimal_injective, decimal_nonempty}
use Rattle.x690.specs.Arcs.{arcs_text}

-- no point is among the octets
abbrev HasNoPoint : List ℕ → Type 0
HasNoPoint [] = Unit {0}
HasNoPoint (octet ∷ octets) = (octet ≢ 46) × HasNoPoint octets

one_more : (octets : List ℕ) (digit : ℕ) → HasNoPoint octets → HasNoPoint (octets ++ (48 + digit) ∷ [])
one_more [] digit h = (λ e. omega (arith, e), tt)
one_more (octet ∷ octets) digit h = (h.0, one_more octets digit h.1)

decimal_has_no_point : (n : ℕ) → n < 2 ^ 64 → HasNoPoint (decimal n)
decimal_has_no_point n h =
    decimal_by_steps (λ m digits. HasNoPoint digits) (λ m small. (λ e. omega (arith, e), tt))
    (λ m digits great had. one_more digits (m % 10) had) n h

-- texts without a point, up to the first point
same_front : (front other rest tail : List ℕ) → HasNoPoint front → HasNoPoint other →
    front ++ 46 ∷ rest ≡ other ++ 46 ∷ tail → (front ≡ other) × (rest ≡ tail)
same_front [] [] rest tail h k e = (refl, cc)
same_front [] (o ∷ os) rest tail h k e = absurd (k.0 cc)
same_front (f ∷ fs) [] rest tail h k e = absurd (h.0 cc)
same_front (f ∷ fs) (o ∷ os) rest tail h k e =
    let first : f ≡ o = cc in
    let others : fs ++ 46 ∷ rest ≡ os ++ 46 ∷ tail = cc in
    let same = same_front fs os rest tail h.1 k.1 others in
    (ap (λ (x : ℕ). x ∷ fs) first ∙ ap (λ (xs : List ℕ). o ∷ xs) same.0, same.1)

no_end : (front other rest : List ℕ) → HasNoPoint other → front ++ 46 ∷ rest ≡ other → ⊥
no_end [] [] rest k e = cc
no_end [] (o ∷ os) rest k e = k.0 cc
no_end (f ∷ fs) [] rest k e = cc
no_end (f ∷ fs) (o ∷ os) rest k e = no_end fs os rest k.1 cc

empty_text : (n : ℕ) → n < 2 ^ 64 → decimal n ≡ [] → ⊥
empty_text n h e = omega (arith, decimal_nonempty n h, ap length e)

front_not_empty : (front rest : List ℕ) → front ++ 46 ∷ rest ≡ [] → ⊥
front_not_empty [] rest e = cc
front_not_empty (f ∷ fs) rest e = cc

abbrev AreSmall : List ℕ → Type 0
AreSmall arcs = All (λ arc. arc < 2 ^ 64) arcs

tail_small : (arc : ℕ) (arcs : List ℕ) → AreSmall (arc ∷ arcs) → AreSmall arcs
tail_small arc arcs a = λ k d h. a (suc k) d (omega arith)

first_small : (arc : ℕ) (arcs : List ℕ) → AreSmall (arc ∷ arcs) → arc < 2 ^ 64
first_small arc arcs a = a 0 0 (omega arith)

-- arcs with one text are the same
pub one_text : (arcs others : List ℕ) → AreSmall arcs → AreSmall others → arcs_text arcs ≡ arcs_text others →
    arcs ≡ others
one_text [] [] a b e = refl
one_text [] (y ∷ []) a b e = absurd (empty_text y (first_small y [] b) (sym e))
one_text [] (y ∷ z ∷ ys) a b e = absurd (front_not_empty (decimal y) (arcs_text (z ∷ ys)) (sym e))
one_text (x ∷ []) [] a b e = absurd (empty_text x (first_small x [] a) e)
one_text (x ∷ w ∷ xs) [] a b e = absurd (front_not_empty (decimal x) (arcs_text (w ∷ xs)) e)
one_text (x ∷ []) (y ∷ []) a b e =
    ap (λ (n : ℕ). n ∷ []) (decimal_injective x y (first_small x [] a) (first_small y [] b) e)
one_text (x ∷ []) (y ∷ z ∷ ys) a b e =
    absurd (no_end (decimal y) (decimal x) (arcs_text (z ∷ ys)) (decimal_has_no_point x (first_small x [] a)) (sym e))
one_text (x ∷ w ∷ xs) (y ∷ []) a b e =
    absurd (no_end (decimal x) (decimal y) (arcs_text (w ∷ xs)) (decimal_has_no_point y (first_small y [] b)) e)
one_text (x ∷ w ∷ xs) (y ∷ z ∷ ys) a b e =
    let small = first_small x (w ∷ xs) a in
    let little = first_small y (z ∷ ys) b in
    let same = same_front (decimal x) (decimal y) (arcs_text (w ∷ xs)) (arcs_text (z ∷ ys))
    (decimal_has_no_point x small) (decimal_has_no_point y little) e in
    let others = one_text (w ∷ xs) (z ∷ ys) (tail_small x (w ∷ xs) a) (tail_small y (z ∷ ys) b) same.1 in
    ap (λ (n : ℕ). n ∷ w ∷ xs) (decimal_injective x y small little same.0) ∙ ap (λ (ns : List ℕ). y ∷ ns) others
