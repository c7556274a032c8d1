-- Laws of the strict contents octets of natural numbers (X.690 8.3).
use Rattle.std.proofs.Common.{◌≡◌, ◌≢◌, ℕ, suc, zero, ◌+◌, ◌/◌, ◌%◌, ◌^◌, ◌<◌, ◌≤◌, List, [], ◌∷◌, ◌++◌, length, get_or}
use Rattle.std.proofs.Common.{pos, refl, sym, ap, ◌∙◌, arith, subst, inl, inr, length-append}
use Rattle.std.specs.Int.Digits.{digits_of, AllBelowBase}
use Rattle.std.proofs.lemmas.Int.Digits.{digits_of_step, length-digits_of-le, all_below_base_digits_of, first_digits_of}
use Rattle.std.proofs.lemmas.Bool.{cases_lt}
use Rattle.std.proofs.lemmas.Bool.Decides.{nat_tests}
use Rattle.x690.specs.Digits.{base_256_value}
use Rattle.x690.specs.Integers.{IsIntegerContent, HasNoLeadingZero, HasRedundantZeros, HasRedundantOnes, with_sign_octet}
use Rattle.x690.specs.Integers.{unsigned_octets}
use Rattle.x690.specs.Laws.Octets.{below_octets}
use Rattle.x690.specs.Laws.Digits.Sums.{weighted_sum_digits}
use Rattle.x690.specs.Laws.Integers.{value_low, unsigned_value}

with_sign_low : (first : ℕ) (others : List ℕ) → first < 128 → with_sign_octet (first ∷ others) ≡ first ∷ others
with_sign_low first others h = grind (arith, nat_tests)

with_sign_high : (first : ℕ) (others : List ℕ) → 128 ≤ first → with_sign_octet (first ∷ others) ≡ 0 ∷ first ∷ others
with_sign_high first others h = grind (arith, nat_tests)

low_is_content : (first : ℕ) (others : List ℕ) → AllBelowBase 256 (first ∷ others) → first ≢ 0 → first < 128 →
    IsIntegerContent (pos (base_256_value (first ∷ others))) (first ∷ others)
low_is_content first others below some h = record {
  octets = below_octets (first ∷ others) below;
  shortest = ((λ e. cc), no_zeros others, no_ones others);
  value = value_low first others h;
}
  where
    no_zeros : (others : List ℕ) → ¬ HasRedundantZeros (first ∷ others)
    no_zeros [] s = s
    no_zeros (second ∷ others) s = some s.0

    no_ones : (others : List ℕ) → ¬ HasRedundantOnes (first ∷ others)
    no_ones [] s = s
    no_ones (second ∷ others) s = omega (arith, s.0)

high_is_content : (first : ℕ) (others : List ℕ) → AllBelowBase 256 (first ∷ others) → 128 ≤ first →
    IsIntegerContent (pos (base_256_value (first ∷ others))) (0 ∷ first ∷ others)
high_is_content first others below h = record {
  octets = below_octets (0 ∷ first ∷ others) (omega arith, below);
  shortest = ((λ e. cc), (λ s. omega (arith, s.1)), (λ s. omega (arith, s.0)));
  value = value_low 0 (first ∷ others) (omega arith) ∙ ap pos (omega arith);
}

zero_is_content : IsIntegerContent (pos 0) (0 ∷ [])
zero_is_content = record {
  octets = below_octets (0 ∷ []) (omega arith, tt);
  shortest = ((λ e. cc), (λ s. s), (λ s. s));
  value = value_low 0 [] (omega arith) ∙ ap pos (omega arith);
}

signed_is_content : (digits : List ℕ) → AllBelowBase 256 digits → HasNoLeadingZero digits →
    IsIntegerContent (pos (base_256_value digits)) (with_sign_octet digits)
signed_is_content [] below well = zero_is_content
signed_is_content (first ∷ others) below well = elim (cases_lt first 128) [
  | inl h ↦ subst (IsIntegerContent (pos (base_256_value (first ∷ others)))) (sym (with_sign_low first others h))
      (low_is_content first others below well h)
  | inr h ↦ subst (IsIntegerContent (pos (base_256_value (first ∷ others)))) (sym (with_sign_high first others h))
      (high_is_content first others below h)
]

starts_well : (digits : List ℕ) → 0 < get_or digits 0 0 → HasNoLeadingZero digits
starts_well [] h = tt
starts_well (first ∷ others) h = omega arith

digits_start_well : (n : ℕ) → HasNoLeadingZero (digits_of 256 n)
digits_start_well zero = tt
digits_start_well (suc n) =
    starts_well (digits_of 256 (suc n)) (first_digits_of 256 (suc n) (omega arith) (omega arith))

-- they are the contents octets of their number
pub unsigned_octets_content : (n : ℕ) → IsIntegerContent (pos n) (unsigned_octets n)
unfolding unsigned_octets
unsigned_octets_content n =
    let s = signed_is_content (digits_of 256 n) (all_below_base_digits_of 256 n (omega arith)) (digits_start_well n) in
    subst (λ (m : ℕ). IsIntegerContent (pos m) (with_sign_octet (digits_of 256 n)))
    (weighted_sum_digits 256 n (omega arith)) s

-- their first bit is not set
pub unsigned_octets_first : (n : ℕ) → get_or (unsigned_octets n) 0 0 < 128
unfolding unsigned_octets
unsigned_octets_first n = first_of (digits_of 256 n)
  where
    first_of : (digits : List ℕ) → get_or (with_sign_octet digits) 0 0 < 128
    first_of [] = omega arith
    first_of (first ∷ others) = elim (cases_lt first 128) [
      | inl h ↦ subst (λ (ys : List ℕ). get_or ys 0 0 < 128) (sym (with_sign_low first others h)) h
      | inr h ↦ subst (λ (ys : List ℕ). get_or ys 0 0 < 128) (sym (with_sign_high first others h)) (omega arith)
    ]

-- and the sum of their digits is the number
pub unsigned_octets_value : (n : ℕ) → base_256_value (unsigned_octets n) ≡ n
unsigned_octets_value n =
    let e : pos (base_256_value (unsigned_octets n)) ≡ pos n =
    sym (unsigned_value (unsigned_octets n) (unsigned_octets_first n)) ∙ (unsigned_octets_content n).value in
    cc

with_sign_count : (digits : List ℕ) → length (with_sign_octet digits) ≤ length digits + 1
with_sign_count [] = omega arith
with_sign_count (first ∷ others) = elim (cases_lt first 128) [
  | inl h ↦ let e = ap length (with_sign_low first others h) in omega arith
  | inr h ↦ let e = ap length (with_sign_high first others h) in omega arith
]

-- at most one more than the octets that hold the number
pub unsigned_octets_few : (n k : ℕ) → n < 256 ^ k → length (unsigned_octets n) ≤ k + 1
unfolding unsigned_octets
unsigned_octets_few n k h =
    omega (arith, with_sign_count (digits_of 256 n), length-digits_of-le 256 k n (omega arith) h)

-- They are one octet at least.
pub unsigned_octets_some : (n : ℕ) → 1 ≤ length (unsigned_octets n)
unsigned_octets_some n = some (unsigned_octets n) (unsigned_octets_content n).shortest.0
  where
    some : (octets : List ℕ) → octets ≢ [] → 1 ≤ length octets
    some [] h = absurd (h refl)
    some (first ∷ others) h = omega arith

with_sign_push : (digits : List ℕ) (last : ℕ) → 1 ≤ length digits →
    with_sign_octet (digits ++ last ∷ []) ≡ with_sign_octet digits ++ last ∷ []
with_sign_push [] last h = absurd (omega arith)
with_sign_push (first ∷ others) last h = elim (cases_lt first 128) [
  | inl l ↦ with_sign_low first (others ++ last ∷ []) l
      ∙ ap (λ (ys : List ℕ). ys ++ last ∷ []) (sym (with_sign_low first others l))
  | inr l ↦ with_sign_high first (others ++ last ∷ []) l
      ∙ ap (λ (ys : List ℕ). ys ++ last ∷ []) (sym (with_sign_high first others l))
]

one_digit : (n : ℕ) → 0 < n → n < 256 → digits_of 256 n ≡ n ∷ []
one_digit n p h =
    let q : n / 256 ≡ 0 = omega arith in
    let r : n % 256 ≡ n = omega arith in
    digits_of_step 256 n (omega arith) p ∙ ap (λ (k : ℕ). digits_of 256 k ++ (n % 256) ∷ []) q
    ∙ ap (λ (k : ℕ). k ∷ []) r

some_digits : (digits : List ℕ) → 0 < get_or digits 0 0 → 1 ≤ length digits
some_digits [] h = absurd (omega arith)
some_digits (first ∷ others) h = omega arith

-- one octet below 128
pub unsigned_octets_low : (n : ℕ) → n < 128 → unsigned_octets n ≡ n ∷ []
unfolding unsigned_octets
unsigned_octets_low zero h = refl
unsigned_octets_low (suc n) h =
    ap with_sign_octet (one_digit (suc n) (omega arith) (omega arith)) ∙ with_sign_low (suc n) [] h

-- and from 128 on one more than a 256th of the number has
pub unsigned_octets_step : (n : ℕ) → 128 ≤ n → unsigned_octets n ≡ unsigned_octets (n / 256) ++ (n % 256) ∷ []
unfolding unsigned_octets
unsigned_octets_step n h = elim (cases_lt n 256) [
  | inl l ↦
      let q : n / 256 ≡ 0 = omega arith in
      let r : n % 256 ≡ n = omega arith in
      ap with_sign_octet (one_digit n (omega arith) l) ∙ with_sign_high n [] h ∙ ap (λ (k : ℕ). 0 ∷ k ∷ []) (sym r)
      ∙ ap (λ (k : ℕ). with_sign_octet (digits_of 256 k) ++ (n % 256) ∷ []) (sym q)
  | inr l ↦
      let s = some_digits (digits_of 256 (n / 256)) (first_digits_of 256 (n / 256) (omega arith) (omega arith)) in
      ap with_sign_octet (digits_of_step 256 n (omega arith) (omega arith))
      ∙ with_sign_push (digits_of 256 (n / 256)) (n % 256) s
]

-- A number below 128 has one.
pub unsigned_octets_count_low : (n : ℕ) → n < 128 → length (unsigned_octets n) ≡ 1
unsigned_octets_count_low n h = ap length (unsigned_octets_low n h)

-- A number from 128 on has one more than its 256th part.
pub unsigned_octets_count_step : (n : ℕ) → 128 ≤ n → length (unsigned_octets n) ≡ length (unsigned_octets (n / 256)) + 1
unsigned_octets_count_step n h =
    let e = ap length (unsigned_octets_step n h) in
    omega (arith, e, length-append (unsigned_octets (n / 256)) ((n % 256) ∷ []))
