-- Laws of the sums of digits, and of the digits of a tag number.
pub mod Sums
use Rattle.std.proofs.Common.{◌≡◌, ℕ, zero, suc, ◌+◌, ◌*◌, ◌%◌, ◌^◌, ◌<◌, ◌≤◌, List, [], ◌∷◌, ◌++◌, length, map, get_or}
use Rattle.std.proofs.Common.{take, drop, take-append-drop, refl, sym, ap, ◌∙◌, arith}
use Rattle.std.proofs.Math.Nat.{pow-zero, mul-one, pow-succ', mul_assoc, add-mul}
use Rattle.std.specs.Int.Digits.{number_from_digits, number_from_digits_after}
use Rattle.std.proofs.lemmas.Int.Digits.{number_push, number_more, number_after_append}
use Rattle.std.proofs.lemmas.List.{take-map, get_or-map, length-map}
use Rattle.x690.specs.Octets.{IsOctets}
use Rattle.x690.specs.Digits.{weighted_sum, base_128_value, low_seven_bits}
use Rattle.x690.specs.Identifiers.{AreTagDigits}

weighted_sum_after : (base start : ℕ) (digits : List ℕ) →
    number_from_digits_after base start digits ≡ start * base ^ length digits + weighted_sum base digits
weighted_sum_after base start [] = sym (mul-one start) ∙ rw (← pow-zero base) (omega arith)
weighted_sum_after base start (digit ∷ digits) =
    weighted_sum_after base (start * base + digit) digits ∙ simp (pow-succ', add-mul, mul_assoc) (omega arith)

-- the sum is std's number of the digits
pub weighted_sum_is_number : (base : ℕ) (digits : List ℕ) → number_from_digits base digits ≡ weighted_sum base digits
weighted_sum_is_number base digits = weighted_sum_after base 0 digits ∙ omega arith

-- One more digit at the end multiplies the sum by the base, and is added.
pub weighted_sum_push : (base : ℕ) (digits : List ℕ) (last : ℕ) →
    weighted_sum base (digits ++ last ∷ []) ≡ weighted_sum base digits * base + last
weighted_sum_push base digits last =
    sym (weighted_sum_is_number base (digits ++ last ∷ [])) ∙ number_push base digits last
    ∙ ap (λ n. n * base + last) (weighted_sum_is_number base digits)

-- the digits up to i, and the one there
pub weighted_sum_more : (base : ℕ) (digits : List ℕ) (i : ℕ) → i < length digits →
    weighted_sum base (take (i + 1) digits) ≡ weighted_sum base (take i digits) * base + get_or digits i 0
weighted_sum_more base digits i within =
    sym (weighted_sum_is_number base (take (i + 1) digits)) ∙ number_more base digits i within
    ∙ ap (λ n. n * base + get_or digits i 0) (weighted_sum_is_number base (take i digits))

-- The sum of digits is that of the front at its place, and that of the back.
pub weighted_sum_append : (base : ℕ) (front back : List ℕ) →
    weighted_sum base (front ++ back) ≡ weighted_sum base front * base ^ length back + weighted_sum base back
weighted_sum_append base front back =
    sym (weighted_sum_is_number base (front ++ back)) ∙ number_after_append base 0 front back
    ∙ weighted_sum_after base (number_from_digits_after base 0 front) back
    ∙ ap (λ n. n * base ^ length back + weighted_sum base back) (weighted_sum_is_number base front)

-- the front's number takes part with the weight of what follows
pub weighted_sum_front : (base : ℕ) (digits : List ℕ) (i : ℕ) →
    weighted_sum base (take i digits) * base ^ length (drop i digits) ≤ weighted_sum base digits
weighted_sum_front base digits i =
    let e = ap (weighted_sum base) (take-append-drop i digits) in
    omega (arith, weighted_sum_append base (take i digits) (drop i digits), e)

-- one more octet in base 128
pub base_128_value_more : (octets : List ℕ) (i : ℕ) → i < length octets →
    base_128_value (take (i + 1) octets) ≡ base_128_value (take i octets) * 128 + get_or octets i 0 % 128
base_128_value_more octets i h =
    let l : i < length (map low_seven_bits octets) = simp length-map h in
    ap (weighted_sum 128) (sym (take-map low_seven_bits (i + 1) octets))
    ∙ weighted_sum_more 128 (map low_seven_bits octets) i l
    ∙ (ap (λ ys. weighted_sum 128 ys * 128 + get_or (map low_seven_bits octets) i 0) (take-map low_seven_bits i
    octets) ∙ ap (λ n. base_128_value (take i octets) * 128 + n) (get_or-map low_seven_bits octets i 0 0 h))

-- bit 8 is set on each of the first i octets
abbrev pub HaveBit8To : ℕ → List ℕ → Type 0
HaveBit8To i octets = (k : ℕ) → k < i → 128 ≤ get_or octets k 0

-- the digits of a tag number reach past the octets with bit 8
pub tag_digits_reach : (i k : ℕ) (octets : List ℕ) → HaveBit8To i octets → AreTagDigits (take k octets) →
    (i < k) × (i < length octets)
tag_digits_reach i zero xs high digits = absurd digits
tag_digits_reach i (suc k) [] high digits = absurd digits
tag_digits_reach zero (suc k) (x ∷ xs) high digits = (omega arith, omega arith)
tag_digits_reach (suc i) (suc zero) (x ∷ xs) high digits = absurd (omega (arith, high 0 (omega arith)))
tag_digits_reach (suc i) (suc (suc k)) (x ∷ []) high digits = absurd (omega (arith, high 0 (omega arith)))
tag_digits_reach (suc i) (suc (suc k)) (x ∷ y ∷ xs) high digits =
    let r = tag_digits_reach i (suc k) (y ∷ xs) (λ j h. high (suc j) (omega arith)) digits.2 in
    (omega arith, omega arith)

-- and end at the first without it
pub tag_digits_end : (i k : ℕ) (octets : List ℕ) → HaveBit8To i octets → get_or octets i 0 < 128 →
    AreTagDigits (take k octets) → take k octets ≡ take (suc i) octets
tag_digits_end i zero xs high last digits = absurd digits
tag_digits_end i (suc k) [] high last digits = absurd digits
tag_digits_end zero (suc zero) (x ∷ xs) high last digits = refl
tag_digits_end zero (suc (suc k)) (x ∷ []) high last digits = refl
tag_digits_end zero (suc (suc k)) (x ∷ y ∷ xs) high last digits = absurd (omega arith)
tag_digits_end (suc i) (suc zero) (x ∷ xs) high last digits = absurd (omega (arith, high 0 (omega arith)))
tag_digits_end (suc i) (suc (suc k)) (x ∷ []) high last digits = absurd (omega (arith, high 0 (omega arith)))
tag_digits_end (suc i) (suc (suc k)) (x ∷ y ∷ xs) high last digits =
    ap (λ ys. x ∷ ys) (tag_digits_end i (suc k) (y ∷ xs) (λ j h. high (suc j) (omega arith)) last digits.2)

-- octets with bit 8, and one without it, are the digits of a tag number
pub tag_digits_made : (i : ℕ) (octets : List ℕ) → IsOctets octets → HaveBit8To i octets → i < length octets →
    get_or octets i 0 < 128 → AreTagDigits (take (suc i) octets)
tag_digits_made i [] octets high within last = absurd (omega arith)
tag_digits_made zero (x ∷ xs) octets high within last = last
tag_digits_made (suc i) (x ∷ []) octets high within last = absurd (omega arith)
tag_digits_made (suc i) (x ∷ y ∷ xs) octets high within last = (
  high 0 (omega arith),
  octets 0,
  tag_digits_made i (y ∷ xs) (λ k. octets (suc k)) (λ j h. high (suc j) (omega arith)) (omega arith) last,
)
