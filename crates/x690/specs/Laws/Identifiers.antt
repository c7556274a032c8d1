-- Two identifiers that begin one input are the same.
use Rattle.std.proofs.Common.{◌≡◌, ℕ, ◌+◌, ◌*◌, ◌^◌, ◌<◌, ◌≤◌, Bool, true, false, List, [], ◌∷◌, ◌++◌, length, get_or}
use Rattle.std.proofs.Common.{take, drop, refl, sym, ap, ◌∙◌, arith, subst, inl, inr, ◌⊎◌}
use Rattle.std.specs.Int.Digits.{AllBelowBase}
use Rattle.std.proofs.lemmas.List.{take_at, append_cancel_left}
use Rattle.x690.specs.Octets.{IsOctets}
use Rattle.x690.specs.Digits.{base_128_value}
use Rattle.x690.specs.Identifiers.{Identifier, IsIdentifier, IsLowForm, IsHighForm, AreTagDigits, bit}
use Rattle.x690.specs.Laws.Octets.{below_octets}

-- the parts of the first octet
pub first_octet_unique : (c d : ℕ) (b e : Bool) (l m : ℕ) → l < 32 → m < 32 →
    64 * c + 32 * bit b + l ≡ 64 * d + 32 * bit e + m → (c ≡ d) × (b ≡ e) × (l ≡ m)
first_octet_unique c d true true l m p q h = (omega arith, refl, omega arith)
first_octet_unique c d false false l m p q h = (omega arith, refl, omega arith)
first_octet_unique c d true false l m p q h = absurd (omega arith)
first_octet_unique c d false true l m p q h = absurd (omega arith)

-- Two digits of tag numbers that begin one input are the same.
pub tag_digits_unique : (ds es x y : List ℕ) → AreTagDigits ds → AreTagDigits es → ds ++ x ≡ es ++ y → ds ≡ es
tag_digits_unique [] es x y p q h = absurd p
tag_digits_unique (d ∷ ds) [] x y p q h = absurd q
tag_digits_unique (d ∷ []) (e ∷ []) x y p q h = cc
tag_digits_unique (d ∷ []) (e ∷ f ∷ es) x y p q h = let s : d ≡ e = cc in absurd (omega arith)
tag_digits_unique (d ∷ g ∷ ds) (e ∷ []) x y p q h = let s : d ≡ e = cc in absurd (omega arith)
tag_digits_unique (d ∷ g ∷ ds) (e ∷ f ∷ es) x y p q h =
    let s : d ≡ e = cc in
    let t : (g ∷ ds) ++ x ≡ (f ∷ es) ++ y = cc in
    let r = tag_digits_unique (g ∷ ds) (f ∷ es) x y p.2 q.2 t in
    cc

-- the octets after a first one with these low bits
abbrev Follows : ℕ → List ℕ → ℕ → Type 0
Follows low following number = IsLowForm low following number ⊎ IsHighForm low following number

follows_unique : (low num mun : ℕ) (ds es x y : List ℕ) → Follows low ds num → Follows low es mun → ds ++ x ≡ es ++ y →
    (ds ≡ es) × (num ≡ mun)
follows_unique low num mun ds es x y (inl p) (inl q) h = (p.2 ∙ sym q.2, omega arith)
follows_unique low num mun ds es x y (inl p) (inr q) h = absurd (omega arith)
follows_unique low num mun ds es x y (inr p) (inl q) h = absurd (omega arith)
follows_unique low num mun ds es x y (inr p) (inr q) h =
    let s = tag_digits_unique ds es x y p.1 q.1 h in
    let e = ap base_128_value s in
    (s, omega arith)

-- identifiers are the same where their parts are
pub same_identifier : (c d n m : ℕ) (b e : Bool) → c ≡ d → b ≡ e → n ≡ m → ◌≡◌ {A = Identifier}
    (record { class = c; constructed = b; number = n }) (record { class = d; constructed = e; number = m })
same_identifier c d n m b e p q r = cc

identifier_same : (o q x y : List ℕ) (id jd : Identifier) → IsIdentifier o id → IsIdentifier q jd → o ++ x ≡ q ++ y →
    (o ≡ q) × (id ≡ jd)
identifier_same [] q x y id jd i j h = absurd i
identifier_same (l ∷ ds) [] x y id jd i j h = absurd j
identifier_same (l ∷ ds) (m ∷ es) x y id jd i j h =
    let s : l ≡ m = cc in
    let t : ds ++ x ≡ es ++ y = cc in
    let u = first_octet_unique id.class jd.class id.constructed jd.constructed i.0 j.0 i.2 j.2 (sym i.3 ∙ s ∙ j.3) in
    let f =
    follows_unique j.0 id.number jd.number ds es x y (subst (λ (n : ℕ). Follows n ds id.number) u.2 i.4) j.4 t in
    let o : l ∷ ds ≡ m ∷ es = cc in
    (o, same_identifier id.class jd.class id.number jd.number id.constructed jd.constructed u.0 u.1 f.1)

-- Identifier octets that begin one input are the same and say the same, and the same follows.
pub identifier_unique : (o q x y : List ℕ) (id jd : Identifier) → IsIdentifier o id → IsIdentifier q jd →
    o ++ x ≡ q ++ y → (o ≡ q) × (id ≡ jd) × (x ≡ y)
identifier_unique o q x y id jd i j h =
    let u = identifier_same o q x y id jd i j h in
    (u.0, u.1, append_cancel_left q x y (ap (λ (ys : List ℕ). ys ++ x) (sym u.0) ∙ h))

follows_none : (low num : ℕ) (os rest : List ℕ) → low ≡ 31 → Follows low os num →
    ((k : ℕ) → k ≤ 5 → AreTagDigits (take k (os ++ rest)) → base_128_value (take k (os ++ rest)) < 2 ^ 32 → ⊥) → ⊥
follows_none low num os rest e (inl p) none = omega arith
follows_none low num os rest e (inr p) none =
    let s : take (length os) (os ++ rest) ≡ os = take_at os rest (length os) refl in
    let v = ap base_128_value s in
    none (length os) p.2 (subst AreTagDigits (sym s) p.1) (omega arith)

-- The low five bits are 31, and no front of the octets that follow is a tag number. Then no front of the octets is an
-- identifier.
pub no_identifier : (octets following : List ℕ) (class : ℕ) (constructed : Bool) (low : ℕ) → low < 32 → 31 ≤ low →
    get_or octets 0 0 ≡ 64 * class + 32 * bit constructed + low → following ≡ drop 1 octets →
    ((k : ℕ) → k ≤ 5 → AreTagDigits (take k following) → base_128_value (take k following) < 2 ^ 32 → ⊥) →
    (front rest : List ℕ) (id : Identifier) → octets ≡ front ++ rest → IsIdentifier front id → ⊥
no_identifier bytes ds c b low p q e d none [] rest id h i = absurd i
no_identifier [] ds c b low p q e d none (l ∷ os) rest id h i = cc
no_identifier (x ∷ xs) ds c b low p q e d none (l ∷ os) rest id h i =
    let s : x ≡ l = cc in
    let t : ds ≡ os ++ rest = cc in
    let u = first_octet_unique id.class c id.constructed b i.0 low i.2 p (sym i.3 ∙ sym s ∙ e) in
    follows_none i.0 id.number os rest (omega arith) i.4
    (λ k small digits fits. none k small (subst (λ (ys : List ℕ). AreTagDigits (take k ys)) (sym t) digits)
    (subst (λ (ys : List ℕ). base_128_value (take k ys) < 2 ^ 32) (sym t) fits))

-- no identifier is empty
pub identifier_some : (o : List ℕ) (id : Identifier) → IsIdentifier o id → 1 ≤ length o
identifier_some [] id i = absurd i
identifier_some (l ∷ ds) id i = omega arith

tag_digits_below : (ds : List ℕ) → AreTagDigits ds → AllBelowBase 256 ds
tag_digits_below [] h = tt
tag_digits_below (d ∷ []) h = (omega arith, tt)
tag_digits_below (d ∷ e ∷ ds) h = (h.1, tag_digits_below (e ∷ ds) h.2)

-- the class and the tag number that identifier octets say
pub identifier_bounds : (o : List ℕ) (id : Identifier) → IsIdentifier o id → (id.class < 4) × (id.number < 2 ^ 32)
identifier_bounds [] id i = absurd i
identifier_bounds (first ∷ following) id i = (i.1, elim i.4 [ inl p ↦ omega (arith, p.1) | inr p ↦ p.4 ])

bit_at_most_1 : (b : Bool) → bit b ≤ 1
bit_at_most_1 true = omega arith
bit_at_most_1 false = omega arith

follows_below : (low num : ℕ) (ds : List ℕ) → Follows low ds num → AllBelowBase 256 ds
follows_below low num ds (inl p) = subst (AllBelowBase 256) (sym p.2) tt
follows_below low num ds (inr p) = tag_digits_below ds p.1

identifier_below : (o : List ℕ) (id : Identifier) → IsIdentifier o id → AllBelowBase 256 o
identifier_below [] id i = tt
identifier_below (l ∷ ds) id i =
    (omega (arith, i.1, i.2, i.3, bit_at_most_1 id.constructed), follows_below i.0 id.number ds i.4)

-- identifier octets are octets
pub identifier_is_octets : (o : List ℕ) (id : Identifier) → IsIdentifier o id → IsOctets o
identifier_is_octets o id i = below_octets o (identifier_below o id i)
