-- Laws of the strict length octets (X.690 10.1).
use Rattle.std.proofs.Common.{◌≡◌, ℕ, ◌+◌, ◌^◌, ◌<◌, ◌≤◌, List, [], ◌∷◌, length, refl, sym, ap, ◌∙◌, arith, subst, inl}
use Rattle.std.proofs.Common.{inr}
use Rattle.std.specs.Int.Digits.{digits_of, AllBelowBase}
use Rattle.std.proofs.lemmas.Int.Digits.{length-digits_of-le, all_below_base_digits_of}
use Rattle.std.proofs.lemmas.Bool.{cases_lt}
use Rattle.std.proofs.lemmas.Bool.Decides.{nat_tests}
use Rattle.x690.specs.Octets.{IsOctets}
use Rattle.x690.specs.Lengths.{IsLength, IsLongLength, IsStrictLength, definite}
use Rattle.x690.specs.Strict.{length_octets}
use Rattle.x690.specs.Laws.Octets.{octets_below, below_octets}
use Rattle.x690.specs.Laws.Lengths.{length_form_some, length_is_octets}
use Rattle.x690.specs.Laws.Digits.Sums.{weighted_sum_lt, weighted_sum_digits, same_digits}

-- the octets after the first one
abbrev others_of : ℕ → List ℕ
others_of n = digits_of 256 n

below : (n : ℕ) → AllBelowBase 256 (others_of n)
below n = all_below_base_digits_of 256 n (omega arith)

-- A number below 256^k has k octets at most.
pub digits_few : (n k : ℕ) → n < 256 ^ k → length (others_of n) ≤ k
digits_few n k h = length-digits_of-le 256 k n (omega arith) h

zero_long : (k : ℕ) → k ≡ 0 → 256 ^ k ≡ 1
zero_long k e = ap (λ n. 256 ^ n) e

digits_some : (n : ℕ) → 0 < n → 1 ≤ length (others_of n)
digits_some n h = elim (cases_lt 0 (length (others_of n))) [
  | inl p ↦ p
  | inr p ↦ absurd (omega (
    arith,
    weighted_sum_digits 256 n (omega arith),
    weighted_sum_lt 256 (others_of n) (below n),
    zero_long (length (others_of n)) (omega arith),
  ))
]

-- The strict length octets of a number below 128 are one.
pub length_octets_low : (n : ℕ) → n < 128 → length_octets n ≡ n ∷ []
unfolding length_octets
length_octets_low n h = grind (arith, nat_tests)

-- Those of a number from 128 on are their count, and the digits.
pub length_octets_high : (n : ℕ) → 128 ≤ n → length_octets n ≡ (128 + length (digits_of 256 n)) ∷ digits_of 256 n
unfolding length_octets
length_octets_high n h = grind (arith, nat_tests)

long_strict : (n : ℕ) → 128 ≤ n → n < 2 ^ 64 → IsLongLength ((128 + length (others_of n)) ∷ others_of n) n
long_strict n h f =
    let few = digits_few n 8 f in (
      digits_some n (omega arith),
      omega arith,
      refl,
      below_octets (others_of n) (below n),
      weighted_sum_digits 256 n (omega arith),
      f,
    )

-- a length fits 64 bits
pub length_fits : (n : ℕ) (q : List ℕ) → IsLength q n → n < 2 ^ 64
length_fits n q (inl l) = omega arith
length_fits n [] (inr l) = absurd l
length_fits n (k ∷ os) (inr l) = l.5

fewest_long : (n : ℕ) → 128 ≤ n → (q : List ℕ) → IsLength q n → length (others_of n) + 1 ≤ length q
fewest_long n h q (inl l) = absurd (omega arith)
fewest_long n h [] (inr l) = absurd l
fewest_long n h (k ∷ os) (inr l) =
    let w : n < 256 ^ length os =
    subst (λ (m : ℕ). m < 256 ^ length os) l.4 (weighted_sum_lt 256 os (octets_below os l.3)) in
    let f = digits_few n (length os) w in
    omega arith

-- the strict length octets of n
pub strict_length : (n : ℕ) → n < 2 ^ 64 → IsStrictLength (length_octets n) n
strict_length n f = elim (cases_lt n 128) [
  | inl h ↦ subst (λ (o : List ℕ). IsStrictLength o n) (sym (length_octets_low n h))
      (record { lenient = inl (h, refl); fewest = λ q l. length_form_some q (definite n) l })
  | inr h ↦ subst (λ (o : List ℕ). IsStrictLength o n) (sym (length_octets_high n h)) (record {
    lenient = inr (long_strict n h f);
    fewest = λ q l. omega (arith, fewest_long n h q l);
  })
]

only_low : (n : ℕ) (o : List ℕ) → IsStrictLength o n → IsLength o n → n < 128 → o ≡ n ∷ []
only_low n o s (inl l) h = l.1
only_low n [] s (inr l) h = absurd l
only_low n (k ∷ os) s (inr l) h = let w = s.fewest (n ∷ []) (inl (h, refl)) in absurd (omega arith)

only_high : (n : ℕ) (o : List ℕ) → n < 2 ^ 64 → IsStrictLength o n → IsLength o n → 128 ≤ n →
    o ≡ (128 + length (others_of n)) ∷ others_of n
only_high n o f s (inl l) h = absurd (omega arith)
only_high n [] f s (inr l) h = absurd l
only_high n (k ∷ os) f s (inr l) h =
    let u = s.fewest ((128 + length (others_of n)) ∷ others_of n) (inr (long_strict n h f)) in
    let v = fewest_long n h (k ∷ os) (inr l) in
    let m : length os ≡ length (others_of n) = omega arith in
    let d = same_digits 256 os (others_of n) (octets_below os l.3) (below n) m
    (l.4 ∙ sym (weighted_sum_digits 256 n (omega arith))) in
    let e : k ≡ 128 + length (others_of n) = omega arith in
    cc

-- there are no others
pub only_strict_length : (n : ℕ) (o : List ℕ) → IsStrictLength o n → o ≡ length_octets n
only_strict_length n o s = elim (cases_lt n 128) [
  | inl h ↦ only_low n o s s.lenient h ∙ sym (length_octets_low n h)
  | inr h ↦ only_high n o (length_fits n o s.lenient) s s.lenient h ∙ sym (length_octets_high n h)
]

-- no length octets of n are fewer
pub fewest_length : (n : ℕ) (q : List ℕ) → IsLength q n → length (length_octets n) ≤ length q
fewest_length n q l = (strict_length n (length_fits n q l)).fewest q l

-- one octet below 128, and else one more than the digits in base 256
pub length_octets_count_low : (n : ℕ) → n < 128 → length (length_octets n) ≡ 1
length_octets_count_low n h = ap length (length_octets_low n h)

-- How many octets the long form has.
pub length_octets_count_high : (n : ℕ) → 128 ≤ n → length (length_octets n) ≡ 1 + length (digits_of 256 n)
length_octets_count_high n h = let e = ap length (length_octets_high n h) in omega arith

-- They are one octet at least.
pub length_octets_some : (n : ℕ) → 1 ≤ length (length_octets n)
length_octets_some n = elim (cases_lt n 128) [
  | inl h ↦ omega (arith, length_octets_count_low n h)
  | inr h ↦ omega (arith, length_octets_count_high n h)
]

-- They are 9 at most.
pub length_octets_few : (n : ℕ) → n < 2 ^ 64 → length (length_octets n) ≤ 9
length_octets_few n f = elim (cases_lt n 128) [
  | inl h ↦ omega (arith, length_octets_count_low n h)
  | inr h ↦ omega (arith, length_octets_count_high n h, digits_few n 8 f)
]

-- they are octets
pub length_octets_octets : (n : ℕ) → n < 2 ^ 64 → IsOctets (length_octets n)
length_octets_octets n f = length_is_octets (length_octets n) n (strict_length n f).lenient
