-- The first subidentifier of contents octets, the others behind it, and arcs below 2^64.
use Rattle.std.proofs.Common.{◌≡◌, ◌≢◌, ℕ, suc, zero, ◌+◌, ◌*◌, ◌%◌, ◌^◌, ◌<◌, ◌≤◌, true, false, List, [], ◌∷◌, map}
use Rattle.std.proofs.Common.{length, take, drop, get_or, subst, refl, ap, sym, ◌∙◌, arith, add-one, inl, inr}
use Rattle.std.specs.List.{All}
use Rattle.std.proofs.lemmas.Bool.{cases_lt}
use Rattle.std.proofs.lemmas.Bool.Decides.{nat_tests}
use Rattle.std.proofs.lemmas.Nat.{mul-le}
use Rattle.std.proofs.lemmas.List.{take-map, take_all, drop_all}
use Rattle.std.proofs.lemmas.List.Elements.{All-nil, All-cons}
use Rattle.x690.specs.Digits.{weighted_sum, base_128_value, low_seven_bits}
use Rattle.x690.specs.Laws.Digits.{HaveBit8To, weighted_sum_front, base_128_value_more}
use Rattle.x690.specs.Laws.StrictIdentifiers.{power_le}
use Rattle.x690.specs.Arcs.{in_front, pieces_of, subidentifiers, first_subidentifier, first_arc, second_arc}
use Rattle.x690.specs.Arcs.{with_first_split, arcs_of}
use Rattle.x690.specs.Laws.Arcs.{last_piece, more_piece, tail_bits, piece_is_truncated, first_pair_is, split_but_zero}

-- The first piece.

-- octets are one piece where bit 8 is set on each
pub whole_piece : (octets : List ℕ) → 0 < length octets → HaveBit8To (length octets) octets →
    pieces_of octets ≡ take (length octets) octets ∷ pieces_of (drop (length octets) octets)
whole_piece [] some high = absurd (omega arith)
whole_piece (octet ∷ octets) some high =
    let all = octet ∷ octets in
    piece_is_truncated octet octets high
    ∙ ap (λ (piece : List ℕ). piece ∷ []) (sym (take_all (length all) all (omega arith)))
    ∙ ap (λ (rest : List ℕ). take (length all) all ∷ pieces_of rest) (sym (drop_all (length all) all (omega arith)))

-- its number is the first subidentifier, and the others are those of the octets behind it
pub first_and_rest : (octets : List ℕ) (n : ℕ) → pieces_of octets ≡ take n octets ∷ pieces_of (drop n octets) →
    subidentifiers octets ≡ base_128_value (take n octets) ∷ subidentifiers (drop n octets)
first_and_rest octets n e = ap (map base_128_value) e

-- The first subidentifier is what the first piece says.
pub first_is : (octets : List ℕ) (n : ℕ) → pieces_of octets ≡ take n octets ∷ pieces_of (drop n octets) →
    first_subidentifier octets ≡ base_128_value (take n octets)
first_is octets n e = ap (λ (ns : List ℕ). get_or ns 0 0) (first_and_rest octets n e)

first_in_front : (octet : ℕ) (pieces : List (List ℕ)) → get_or (in_front octet pieces) 0 [] ≡ octet ∷ get_or pieces 0 []
first_in_front octet [] = refl
first_in_front octet (piece ∷ pieces) = refl

-- it begins with the octets that have bit 8, and with one octet more
front_of_first : (i : ℕ) (octets : List ℕ) → HaveBit8To i octets → i < length octets →
    take (suc i) (get_or (pieces_of octets) 0 []) ≡ take (suc i) octets
front_of_first i [] high within = absurd (omega arith)
front_of_first zero (octet ∷ octets) high within = elim (cases_lt octet 128) [
  | inl h ↦ ap (λ (pieces : List (List ℕ)). take 1 (get_or pieces 0 [])) (last_piece octet octets h)
  | inr h ↦
      ap (λ (pieces : List (List ℕ)). take 1 (get_or pieces 0 [])) (more_piece octet octets h)
      ∙ ap (take 1) (first_in_front octet (pieces_of octets))
]
front_of_first (suc i) (octet ∷ octets) high within =
    ap (λ (pieces : List (List ℕ)). take (suc (suc i)) (get_or pieces 0 []))
    (more_piece octet octets (high 0 (omega arith)))
    ∙ ap (take (suc (suc i))) (first_in_front octet (pieces_of octets))
    ∙ ap (λ (ys : List ℕ). octet ∷ ys) (front_of_first i octets (tail_bits i octet octets high) (omega arith))

-- no front of digits says more than the digits
pub value_of_front : (i : ℕ) (digits : List ℕ) → base_128_value (take i digits) ≤ base_128_value digits
value_of_front i digits =
    let low = map low_seven_bits digits in
    let m = length (drop i low) in
    let front = weighted_sum 128 (take i low) in
    let same : base_128_value (take i digits) ≡ front =
    ap (weighted_sum 128) (sym (take-map low_seven_bits i digits)) in
    let some : 128 ^ 0 ≤ 128 ^ m = power_le m 0 (omega arith) in
    let p : front * 128 ^ 0 ≤ front * 128 ^ m = mul-le _ _ _ _ (omega arith) some in
    omega (arith, p, same, weighted_sum_front 128 low i)

value_of_first : (pieces : List (List ℕ)) → get_or (map base_128_value pieces) 0 0 ≡ base_128_value (get_or pieces 0 [])
value_of_first [] = refl
value_of_first (piece ∷ pieces) = refl

-- the number so far, with one octet more: it is no more than the first subidentifier
pub first_step : (i number : ℕ) (octets : List ℕ) → HaveBit8To i octets → i < length octets →
    number ≡ base_128_value (take i octets) →
    (number * 128 + get_or octets i 0 % 128 ≡ base_128_value (take (i + 1) octets)) ×
    (number * 128 + get_or octets i 0 % 128 ≤ first_subidentifier octets)
first_step i number octets high within e =
    let piece = get_or (pieces_of octets) 0 [] in
    let more = base_128_value_more octets i within in
    let front : base_128_value (take (i + 1) piece) ≡ base_128_value (take (i + 1) octets) =
    rw (add-one i) (ap base_128_value (front_of_first i octets high within)) in (
      omega (arith, e, more),
      omega (arith, e, more, front, value_of_front (i + 1) piece, value_of_first (pieces_of octets)),
    )

-- Arcs below 2^64.

abbrev AreSmall : List ℕ → Type 0
AreSmall arcs = All (λ arc. arc < 2 ^ 64) arcs

-- the first is below the bound, and the others are below 2^64
abbrev pub AreBelow : ℕ → List ℕ → Type 0
AreBelow bound [] = Unit {0}
AreBelow bound (n ∷ ns) = (n < bound) × AreSmall ns

-- Subidentifiers each of which is below 2^64 are so, the first and the others.
pub small_below : (ns : List ℕ) → AreSmall ns → AreBelow (2 ^ 64) ns
small_below [] a = tt
small_below (n ∷ ns) a = (a 0 0 (omega arith), λ k d h. a (suc k) d (omega arith))

-- And the other way round.
pub below_small : (ns : List ℕ) → AreBelow (2 ^ 64) ns → AreSmall ns
below_small [] b = All-nil (λ n. n < 2 ^ 64)
below_small (n ∷ ns) b = All-cons (λ m. m < 2 ^ 64) n ns b.0 b.1

second_fits : (n : ℕ) → n < 2 ^ 64 + 80 → second_arc n < 2 ^ 64
second_fits n h = grind (arith, nat_tests)

-- Where all arcs are below 2^64, the first subidentifier is below 2^64 + 80, and the others below 2^64.
pub split_below : (ns : List ℕ) → AreSmall (with_first_split ns) → AreBelow (2 ^ 64 + 80) ns
split_below [] a = tt
split_below (n ∷ ns) a =
    let pair = first_pair_is n in
    let second : second_arc n < 2 ^ 64 = a 1 0 (omega arith) in
    (omega (arith, pair.0.0, pair.1, second), λ k d h. a (suc (suc k)) d (omega arith))

-- And the other way round.
pub below_split : (ns : List ℕ) → AreBelow (2 ^ 64 + 80) ns → AreSmall (with_first_split ns)
below_split [] b = All-nil (λ n. n < 2 ^ 64)
below_split (n ∷ ns) b =
    let pair = first_pair_is n in
    All-cons (λ m. m < 2 ^ 64) (first_arc n) (second_arc n ∷ ns) (omega (arith, pair.0.0))
    (All-cons (λ m. m < 2 ^ 64) (second_arc n) ns (second_fits n b.0) b.1)

-- where the first is below its bound, the others have the bound 2^64
pub below_more : (bound n : ℕ) (octets : List ℕ) → pieces_of octets ≡ take n octets ∷ pieces_of (drop n octets) →
    base_128_value (take n octets) < bound → AreBelow (2 ^ 64) (subidentifiers (drop n octets)) →
    AreBelow bound (subidentifiers octets)
below_more bound n octets e less b =
    subst (AreBelow bound) (sym (first_and_rest octets n e)) (less, below_small (subidentifiers (drop n octets)) b)

-- Where the first is below its bound and the others below 2^64, those behind the first piece are.
pub below_rest : (bound n : ℕ) (octets : List ℕ) → pieces_of octets ≡ take n octets ∷ pieces_of (drop n octets) →
    AreBelow bound (subidentifiers octets) → AreBelow (2 ^ 64) (subidentifiers (drop n octets))
below_rest bound n octets e b =
    let c = subst (AreBelow bound) (first_and_rest octets n e) b in
    small_below (subidentifiers (drop n octets)) c.1

first_below : (bound : ℕ) (ns : List ℕ) → 0 < bound → AreBelow bound ns → get_or ns 0 0 < bound
first_below bound [] some b = some
first_below bound (n ∷ ns) some b = b.0

-- Walks over arcs below 2^64.

-- the first arc of a relative identifier is small
pub first_fits : (octets : List ℕ) → AreSmall (arcs_of true octets) → first_subidentifier octets < 2 ^ 64
first_fits octets a = first_below (2 ^ 64) (subidentifiers octets) (omega arith) (small_below (subidentifiers octets) a)

-- and so are those behind it
pub rest_fits : (octets : List ℕ) (n first : ℕ) → subidentifiers octets ≡ first ∷ subidentifiers (drop n octets) →
    AreSmall (arcs_of true octets) → AreSmall (arcs_of true (drop n octets))
rest_fits octets n first e a = let b = subst AreSmall e a in λ k d h. b (suc k) d (omega arith)

-- the first subidentifier of an object identifier has a small second arc
pub first_fits_absolute : (octets : List ℕ) → AreSmall (arcs_of false octets) → first_subidentifier octets < 2 ^ 64 + 80
first_fits_absolute [] a = omega arith
first_fits_absolute (zero ∷ []) a = omega arith
first_fits_absolute (suc octet ∷ []) a =
    let octets = suc octet ∷ [] in
    first_below (2 ^ 64 + 80) (subidentifiers octets) (omega arith)
    (split_below (subidentifiers octets) (subst AreSmall (split_but_zero octets (λ e. cc)) a))
first_fits_absolute (octet ∷ next ∷ octets) a =
    let ns = subidentifiers (octet ∷ next ∷ octets) in
    first_below (2 ^ 64 + 80) ns (omega arith) (split_below ns a)

-- its arcs are the pair and the arcs behind it
pub absolute_split : (octets : List ℕ) (n first : ℕ) → octets ≢ 0 ∷ [] →
    subidentifiers octets ≡ first ∷ subidentifiers (drop n octets) →
    arcs_of false octets ≡ first_arc first ∷ second_arc first ∷ arcs_of true (drop n octets)
absolute_split octets n first some e = split_but_zero octets some ∙ ap with_first_split e

-- which are small too
pub rest_fits_absolute : (octets : List ℕ) (n first : ℕ) → octets ≢ 0 ∷ [] →
    subidentifiers octets ≡ first ∷ subidentifiers (drop n octets) → AreSmall (arcs_of false octets) →
    AreSmall (arcs_of true (drop n octets))
rest_fits_absolute octets n first some e a =
    let b = subst AreSmall (absolute_split octets n first some e) a in
    λ k d h. b (suc (suc k)) d (omega arith)
