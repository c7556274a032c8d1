-- Laws of the zones and the fractions that texts say.
use Rattle.std.proofs.Common.{◌≡◌, ◌≢◌, ◌⊎◌, ℕ, zero, suc, ◌+◌, ◌-◌, ◌*◌, ◌%◌, ◌^◌, ◌<◌, ◌≤◌, List, [], ◌∷◌, ◌++◌, pos}
use Rattle.std.proofs.Common.{neg_ℤ, unsigned_abs, Bool, true, false, nat_lt, if◌then◌else◌, Option, Some, None, inl}
use Rattle.std.proofs.Common.{inr, refl, sym, ap, subst, ◌∙◌, arith}
use Rattle.std.proofs.lemmas.Bool.{cases_order}
use Rattle.x690.specs.declared.times.TimeZone.{TimeZone}
use Rattle.x690.specs.declared.times.TimeZone.TheVariants.{Offset}
use Rattle.x690.specs.Times.{digits, east, west, SaysZone, SaysZoneOrNone, SaysFraction, MostOffset, MostMilliseconds}
use Rattle.x690.specs.Laws.Times.Digits.{same_first, HasNoDigit, digits_front, more_digits}

-- Zones.

-- what a zone begins with: its sign
pub zone_front : (text : List ℕ) (said : TimeZone) → SaysZone text said →
    (sign : ℕ) × (rest : List ℕ) × (text ≡ sign ∷ rest) × ((sign ≡ 43) ⊎ ((sign ≡ 45) ⊎ (sign ≡ 90)))
zone_front text said (inl z) = (90, [], z.0, inr (inr refl))
zone_front text said (inr (hours, minutes, h, m, inl plus)) = (43, digits 2 hours ++ digits 2 minutes, plus.0, inl refl)
zone_front text said (inr (hours, minutes, h, m, inr minus)) =
    (45, digits 2 hours ++ digits 2 minutes, minus.0, inr (inl refl))

-- no text that may be a zone begins with another octet
pub zone_begins : (text rest : List ℕ) (said : TimeZone) (first : ℕ) → SaysZoneOrNone text said → text ≡ first ∷ rest →
    (first ≡ 43) ⊎ ((first ≡ 45) ⊎ (first ≡ 90))
zone_begins text rest said first (inl none) e = cc (none.0, e)
zone_begins text rest said first (inr zone) e =
    let front = zone_front text said zone in
    subst (λ (x : ℕ). (x ≡ 43) ⊎ ((x ≡ 45) ⊎ (x ≡ 90))) (same_first text front.1 rest front.0 first front.2 e) front.3

-- A zone begins with no digit.
pub zone_has_no_digit : (text : List ℕ) (said : TimeZone) → SaysZoneOrNone text said → HasNoDigit text
zone_has_no_digit text said zone d rest h e = omega (arith, zone_begins text rest said (48 + d % 10) zone e)

-- nor with a point or a comma
pub no_point : (text rest : List ℕ) (said : TimeZone) (point : ℕ) → (point ≡ 46) ⊎ (point ≡ 44) →
    SaysZoneOrNone text said → text ≢ point ∷ rest
no_point text rest said point p zone e = omega (arith, zone_begins text rest said point zone e)

-- the four digits of an offset are those of one pair
offset_front : (h m i n : ℕ) → h < 100 → m < 100 → i < 100 → n < 100 →
    digits 2 h ++ digits 2 m ≡ digits 2 i ++ digits 2 n → (h ≡ i) × (m ≡ n)
offset_front h m i n a b c d e =
    let hours = digits_front 2 h i (digits 2 m) (digits 2 n) (omega arith) (omega arith) e in
    let minutes = digits_front 2 m n [] [] (omega arith) (omega arith) (ap (λ (ys : List ℕ). ys ++ []) hours.1) in
    (hours.0, minutes.0)

-- a text says one zone
pub zones_unique : (text : List ℕ) (one other : TimeZone) → SaysZone text one → SaysZone text other → one ≡ other
zones_unique text one other (inl z) (inl y) = z.1 ∙ sym y.1
zones_unique text one other (inl z) (inr (i, n, k, l, inl plus)) =
    absurd (omega (arith, same_first text [] (digits 2 i ++ digits 2 n) 90 43 z.0 plus.0))
zones_unique text one other (inl z) (inr (i, n, k, l, inr minus)) =
    absurd (omega (arith, same_first text [] (digits 2 i ++ digits 2 n) 90 45 z.0 minus.0))
zones_unique text one other (inr (h, m, a, b, inl plus)) (inl z) =
    absurd (omega (arith, same_first text [] (digits 2 h ++ digits 2 m) 90 43 z.0 plus.0))
zones_unique text one other (inr (h, m, a, b, inr minus)) (inl z) =
    absurd (omega (arith, same_first text [] (digits 2 h ++ digits 2 m) 90 45 z.0 minus.0))
zones_unique text one other (inr (h, m, a, b, inl plus)) (inr (i, n, k, l, inr minus)) =
    absurd (omega (arith, same_first text (digits 2 h ++ digits 2 m) (digits 2 i ++ digits 2 n) 43 45 plus.0 minus.0))
zones_unique text one other (inr (h, m, a, b, inr minus)) (inr (i, n, k, l, inl plus)) =
    absurd (omega (arith, same_first text (digits 2 h ++ digits 2 m) (digits 2 i ++ digits 2 n) 45 43 minus.0 plus.0))
zones_unique text one other (inr (h, m, a, b, inl p)) (inr (i, n, k, l, inl q)) =
    let same = offset_front h m i n a b k l (cc (p.0, q.0)) in
    p.1 ∙ ap (λ (x : ℕ). east x m) same.0 ∙ ap (east i) same.1 ∙ sym q.1
zones_unique text one other (inr (h, m, a, b, inr p)) (inr (i, n, k, l, inr q)) =
    let same = offset_front h m i n a b k l (cc (p.0, q.0)) in
    p.1 ∙ ap (λ (x : ℕ). west x m) same.0 ∙ ap (west i) same.1 ∙ sym q.1

-- A text says one zone, or none.
pub zones_or_none_unique : (text : List ℕ) (one other : TimeZone) → SaysZoneOrNone text one →
    SaysZoneOrNone text other → one ≡ other
zones_or_none_unique text one other (inl a) (inl b) = a.1 ∙ sym b.1
zones_or_none_unique text one other (inl a) (inr b) = let front = zone_front text other b in cc (a.0, front.2)
zones_or_none_unique text one other (inr a) (inl b) = let front = zone_front text one a in cc (b.0, front.2)
zones_or_none_unique text one other (inr a) (inr b) = zones_unique text one other a b

-- Fractions.

-- The digits behind a point say one number of milliseconds. The digits of one split are three, or no digit follows
-- them; those of the other stand before a zone.
pub fraction_digits_front : (count n other k : ℕ) (rest zone : List ℕ) (said : TimeZone) → n < 10 ^ (1 + count) →
    other < 3 → k < 10 ^ (1 + other) → (count < 2 → HasNoDigit rest) → SaysZoneOrNone zone said →
    digits (1 + count) n ++ rest ≡ digits (1 + other) k ++ zone →
    (n * 10 ^ (2 - count) ≡ k * 10 ^ (2 - other)) × (rest ≡ zone)
fraction_digits_front count n other k rest zone said h few i none zones e = order (cases_order count other)
  where
    order : (count ≡ other) ⊎ ((count < other) ⊎ (other < count)) →
        (n * 10 ^ (2 - count) ≡ k * 10 ^ (2 - other)) × (rest ≡ zone)
    order (inr (inl less)) =
        absurd (more_digits (1 + count) (1 + other) n k rest zone (omega arith) (none (omega arith)) e)
    order (inr (inr more)) = absurd
        (more_digits (1 + other) (1 + count) k n zone rest (omega arith) (zone_has_no_digit zone said zones) (sym e))
    order (inl same) =
        let moved = e ∙ ap (λ (j : ℕ). digits (1 + j) k ++ zone) (sym same) in
        let fits : k < 10 ^ (1 + count) = rw (same) i in
        let r = digits_front (1 + count) n k rest zone h fits moved in
        (ap (λ (j : ℕ). j * 10 ^ (2 - count)) r.0 ∙ ap (λ (j : ℕ). k * 10 ^ (2 - j)) same, r.1)

-- The fraction before a zone in a text that begins with a point has milliseconds,
-- which the digits behind the point say.
pub fraction_behind_point : (text behind fraction zone : List ℕ) (point : ℕ) (milliseconds : Option ℕ)
    (said : TimeZone) → (point ≡ 46) ⊎ (point ≡ 44) → text ≡ point ∷ behind → SaysFraction fraction milliseconds →
    SaysZoneOrNone zone said → text ≡ fraction ++ zone →
    (count n : ℕ) × (count < 3) × (n < 10 ^ (1 + count)) × (behind ≡ digits (1 + count) n ++ zone) ×
    (milliseconds ≡ Some (n * 10 ^ (2 - count)))
fraction_behind_point text behind fraction zone point None said p is part zones e =
    absurd (no_point zone behind said point p zones (sym (e ∙ ap (λ (ys : List ℕ). ys ++ zone) part) ∙ is))
fraction_behind_point text behind fraction zone point (Some m) said p is
    (sign, count, n, q, few, h, it, value) zones e =
    let whole = sym is ∙ e ∙ ap (λ (ys : List ℕ). ys ++ zone) it in
    (count, n, few, h, cc (whole), ap Some value)

-- a fraction before a zone is one, and so is the zone
pub fractions_front : (x y zone rest : List ℕ) (one other : Option ℕ) (said told : TimeZone) → SaysFraction x one →
    SaysFraction y other → SaysZoneOrNone zone said → SaysZoneOrNone rest told → x ++ zone ≡ y ++ rest →
    (one ≡ other) × (zone ≡ rest)
fractions_front x y zone rest None None said told f g a b e =
    (refl, ap (λ (ys : List ℕ). ys ++ zone) (sym f) ∙ e ∙ ap (λ (ys : List ℕ). ys ++ rest) g)
fractions_front x y zone rest None (Some m) said told f (point, count, n, p, h, i, g, is) a b e =
    absurd (no_point zone (digits (1 + count) n ++ rest) said point p a
    (ap (λ (ys : List ℕ). ys ++ zone) (sym f) ∙ e ∙ ap (λ (ys : List ℕ). ys ++ rest) g))
fractions_front x y zone rest (Some m) None said told (point, count, n, p, h, i, f, is) g a b e =
    absurd (no_point rest (digits (1 + count) n ++ zone) told point p b
    (ap (λ (ys : List ℕ). ys ++ rest) (sym g) ∙ sym e ∙ ap (λ (ys : List ℕ). ys ++ zone) f))
fractions_front x y zone rest (Some m) (Some l) said told (point, count, n, p, h, i, f, is)
    (sign, other, k, q, few, j, g, it) a b e =
    let whole : point ∷ digits (1 + count) n ++ zone ≡ sign ∷ digits (1 + other) k ++ rest =
    ap (λ (ys : List ℕ). ys ++ zone) (sym f) ∙ e ∙ ap (λ (ys : List ℕ). ys ++ rest) g in
    let r = fraction_digits_front count n other k zone rest told i few j (λ _. zone_has_no_digit zone said a) b
    (cc (whole)) in
    (ap Some (is ∙ r.0 ∙ sym it), r.1)

-- How large zones and fractions are.

neg_most : (n : ℕ) → n < 100 → unsigned_abs (neg_ℤ (pos n)) ≤ 99
neg_most zero h = omega arith
neg_most (suc n) h = omega arith

zone_most : (text : List ℕ) (said : TimeZone) → SaysZone text said → MostOffset 99 said
zone_most text said (inl z) = subst (MostOffset 99) (sym z.1) tt
zone_most text said (inr (hours, minutes, h, m, inl plus)) =
    subst (MostOffset 99) (sym plus.1) (omega arith, omega arith)
zone_most text said (inr (hours, minutes, h, m, inr minus)) =
    subst (MostOffset 99) (sym minus.1) (to_west (nat_lt 0 hours))
  where
    to_west : (some : Bool) →
        MostOffset 99 (if some then Offset (neg_ℤ (pos hours)) (pos minutes) else Offset (pos 0) (neg_ℤ (pos minutes)))
    to_west true = (neg_most hours h, omega arith)
    to_west false = (omega arith, neg_most minutes m)

-- A zone that may be left out has an offset to 99.
pub zone_or_none_most : (text : List ℕ) (said : TimeZone) → SaysZoneOrNone text said → MostOffset 99 said
zone_or_none_most text said (inl none) = subst (MostOffset 99) (sym none.1) tt
zone_or_none_most text said (inr zone) = zone_most text said zone

-- the digits, filled with zeros to three
filled_most : (count n : ℕ) → count < 3 → n < 10 ^ (1 + count) → n * 10 ^ (2 - count) ≤ 999
filled_most zero n few h = omega arith
filled_most (suc zero) n few h = omega arith
filled_most (suc (suc zero)) n few h = omega arith
filled_most (suc (suc (suc count))) n few h = absurd (omega arith)

-- A fraction says milliseconds to 999.
pub fraction_most : (text : List ℕ) (milliseconds : Option ℕ) → SaysFraction text milliseconds →
    MostMilliseconds 999 milliseconds
fraction_most text None part = tt
fraction_most text (Some m) (point, count, n, p, few, h, is, value) = omega (arith, filled_most count n few h)
