-- Laws of the contents octets of integers (X.690 8.3).
pub mod Unsigned
use Rattle.std.proofs.Common.{◌≡◌, ℕ, zero, suc, ◌+◌, ◌*◌, ◌^◌, ◌<◌, ◌≤◌, List, [], ◌∷◌, ◌++◌, length, replicate}
use Rattle.std.proofs.Common.{get_or, ℤ, pos, ◌+ℤ◌, ◌-ℤ◌, refl, sym, ap, ◌∙◌, arith, inl, inr, ◌⊎◌, lit≤}
use Rattle.std.proofs.Math.Nat.{pow-suc, pow-le-pow_right, mul-le-mul_right}
use Rattle.std.proofs.lemmas.Int.{ints}
use Rattle.std.proofs.lemmas.Bool.{cases_lt, cases_order}
use Rattle.std.proofs.lemmas.Bool.Decides.{nat_tests}
use Rattle.x690.specs.Octets.{IsOctets}
use Rattle.x690.specs.Digits.{base_256_value, twos_complement_value}
use Rattle.x690.specs.Integers.{HasRedundantZeros, HasRedundantOnes, HasNoLeadingZero, IsIntegerContent}
use Rattle.x690.specs.Laws.Octets.{octets_below}
use Rattle.x690.specs.Laws.Digits.Sums.{weighted_sum_lt, same_digits}

-- the octets say less than 256 to their number
pub octets_value_below : (octets : List ℕ) → IsOctets octets → base_256_value octets < 256 ^ length octets
octets_value_below octets o = weighted_sum_lt 256 octets (octets_below octets o)

-- what the first octet says of the whole
pub first_below : (bound first : ℕ) (others : List ℕ) → IsOctets (first ∷ others) → first < bound →
    base_256_value (first ∷ others) < bound * 256 ^ length others
first_below bound first others o h =
    let w = octets_value_below others (λ k. o (suc k)) in
    let m : suc first * 256 ^ length others ≤ bound * 256 ^ length others = mul-le-mul_right (256 ^ length others) h in
    omega (arith, m)

-- Where the first octet reaches a bound, the number reaches that bound at the place of the first.
pub first_above : (bound first : ℕ) (others : List ℕ) → bound ≤ first →
    bound * 256 ^ length others ≤ base_256_value (first ∷ others)
first_above bound first others h =
    let m : bound * 256 ^ length others ≤ first * 256 ^ length others = mul-le-mul_right (256 ^ length others) h in
    omega (arith, m)

-- the value where the first bit is not set, and where it is
pub value_low : (first : ℕ) (others : List ℕ) → first < 128 →
    twos_complement_value (first ∷ others) ≡ pos (base_256_value (first ∷ others))
value_low first others h = grind (arith, nat_tests)

-- Where bit 8 of the first octet is 1, the integer is the number less 256 to the number of octets.
pub value_high : (first : ℕ) (others : List ℕ) → 128 ≤ first →
    twos_complement_value (first ∷ others) +ℤ pos (256 ^ length (first ∷ others)) ≡
    pos (base_256_value (first ∷ others))
value_high first others h =
    let e : twos_complement_value (first ∷ others) ≡
    pos (base_256_value (first ∷ others)) -ℤ pos (256 ^ length (first ∷ others)) = grind (arith, nat_tests) in
    omega (arith, ints, e)

-- a bound that needs the first nine bits to differ
pub shortest_low : (first second : ℕ) (others : List ℕ) → ¬ HasRedundantZeros (first ∷ second ∷ others) →
    128 * 256 ^ length others ≤ base_256_value (first ∷ second ∷ others)
shortest_low first second others h =
    let w : 256 ^ suc (length others) ≡ 256 ^ length others * 256 = pow-suc 256 (length others) in
    elim (cases_lt 0 first) [
      | inl p ↦ omega (arith, first_above 1 first (second ∷ others) p, w)
      | inr p ↦ elim (cases_lt second 128) [
        | inl q ↦ absurd (h (omega arith, q))
        | inr q ↦ omega (arith, first_above 128 second others q, first_above 0 first (second ∷ others) (omega arith))
      ]
    ]

-- Where no leading ones are spare, a negative integer is too low for one octet less.
pub shortest_high : (first second : ℕ) (others : List ℕ) → IsOctets (first ∷ second ∷ others) →
    ¬ HasRedundantOnes (first ∷ second ∷ others) →
    base_256_value (first ∷ second ∷ others) + 128 * 256 ^ length others < 256 ^ length (first ∷ second ∷ others)
shortest_high first second others o h =
    let w : 256 ^ suc (length others) ≡ 256 ^ length others * 256 = pow-suc 256 (length others) in
    let v : 256 ^ suc (suc (length others)) ≡ 256 ^ suc (length others) * 256 = pow-suc 256 (suc (length others)) in
    elim (cases_lt first 255) [
      | inl p ↦ omega (arith, first_below 255 first (second ∷ others) o p, w, v)
      | inr p ↦ elim (cases_lt second 128) [
        | inl q ↦
            let e : first ≡ 255 = omega (arith, o 0) in
            let t = first_below 128 second others (λ k. o (suc k)) q in
            let m : first * 256 ^ suc (length others) ≡ 255 * 256 ^ suc (length others) =
            ap (λ n. n * 256 ^ suc (length others)) e in
            omega (arith, t, m, w, v)
        | inr q ↦ absurd (h (omega (arith, o 0), q))
      ]
    ]

-- fewer octets have another value
low_apart : (first second third : ℕ) (others more : List ℕ) → IsOctets (first ∷ others) → first < 128 →
    ¬ HasRedundantZeros (second ∷ third ∷ more) → length others ≤ length more →
    base_256_value (first ∷ others) ≡ base_256_value (second ∷ third ∷ more) → ⊥
low_apart first second third others more o l h few e =
    let p : 256 ^ length others ≤ 256 ^ length more = pow-le-pow_right {n = 256} (lit≤ tt) few in
    omega (arith, first_below 128 first others o l, shortest_low second third more h, p)

high_apart : (first second third : ℕ) (others more : List ℕ) → 128 ≤ first → IsOctets (second ∷ third ∷ more) →
    ¬ HasRedundantOnes (second ∷ third ∷ more) → length others ≤ length more →
    base_256_value (first ∷ others) + 256 ^ length (second ∷ third ∷ more) ≡
    base_256_value (second ∷ third ∷ more) + 256 ^ length (first ∷ others) → ⊥
high_apart first second third others more l o h few e =
    let p : 256 ^ length others ≤ 256 ^ length more = pow-le-pow_right {n = 256} (lit≤ tt) few in
    let w : 256 ^ length (first ∷ others) ≡ 256 ^ length others * 256 = pow-suc 256 (length others) in
    omega (arith, first_above 128 first others l, shortest_high second third more o h, p, w)

-- octets of one value have one first bit, and say one number up to what that bit takes off
same_value : (x y : ℕ) (c d : List ℕ) → IsOctets (x ∷ c) → IsOctets (y ∷ d) →
    twos_complement_value (x ∷ c) ≡ twos_complement_value (y ∷ d) →
    ((x < 128) × (y < 128) × (base_256_value (x ∷ c) ≡ base_256_value (y ∷ d))) ⊎
    ((128 ≤ x) × (128 ≤ y) ×
    (base_256_value (x ∷ c) + 256 ^ length (y ∷ d) ≡ base_256_value (y ∷ d) + 256 ^ length (x ∷ c)))
same_value x y c d o p e =
    let a = octets_value_below (x ∷ c) o in
    let b = octets_value_below (y ∷ d) p in
    elim (cases_lt x 128) [
      | inl k ↦ elim (cases_lt y 128) [
        | inl l ↦ inl (k, l, omega (arith, ints, value_low x c k, value_low y d l, e))
        | inr l ↦ absurd (omega (arith, ints, value_low x c k, value_high y d l, e, b))
      ]
      | inr k ↦ elim (cases_lt y 128) [
        | inl l ↦ absurd (omega (arith, ints, value_high x c k, value_low y d l, e, a))
        | inr l ↦ inr (k, l, omega (arith, ints, value_high x c k, value_high y d l, e))
      ]
    ]

no_fewer : (n : ℤ) (c d : List ℕ) → IsIntegerContent n c → IsIntegerContent n d → length c < length d → ⊥
no_fewer n [] d i j h = i.shortest.0 refl
no_fewer n (x ∷ c) [] i j h = absurd (omega arith)
no_fewer n (x ∷ c) (y ∷ []) i j h = absurd (omega arith)
no_fewer n (x ∷ c) (y ∷ z ∷ d) i j h =
    let few : length c ≤ length d = omega arith in
    elim (same_value x y c (z ∷ d) i.octets j.octets (i.value ∙ sym j.value)) [
      | inl s ↦ low_apart x y z c d i.octets s.0 j.shortest.1 few s.2
      | inr s ↦ high_apart x y z c d s.0 j.octets j.shortest.2 few s.2
    ]

same_length : (n : ℤ) (c d : List ℕ) → IsIntegerContent n c → IsIntegerContent n d → length c ≡ length d → c ≡ d
same_length n [] d i j h = absurd (i.shortest.0 refl)
same_length n (x ∷ c) [] i j h = absurd (omega arith)
same_length n (x ∷ c) (y ∷ d) i j h =
    let w : 256 ^ length (x ∷ c) ≡ 256 ^ length (y ∷ d) = ap (λ k. 256 ^ k) h in
    let e : base_256_value (x ∷ c) ≡ base_256_value (y ∷ d) =
    elim (same_value x y c d i.octets j.octets (i.value ∙ sym j.value)) [
      | inl s ↦ s.2
      | inr s ↦ omega (arith, w, s.2)
    ] in
    same_digits 256 (x ∷ c) (y ∷ d) (octets_below (x ∷ c) i.octets) (octets_below (y ∷ d) j.octets) h e

-- an integer has one content at most
pub integer_content_unique : (n : ℤ) (c d : List ℕ) → IsIntegerContent n c → IsIntegerContent n d → c ≡ d
integer_content_unique n c d i j = elim (cases_order (length c) (length d)) [
  | inl h ↦ same_length n c d i j h
  | inr (inl h) ↦ absurd (no_fewer n c d i j h)
  | inr (inr h) ↦ absurd (no_fewer n d c j i h)
]

-- and a content one integer
pub integer_content_one_value : (m n : ℤ) (c : List ℕ) → IsIntegerContent m c → IsIntegerContent n c → m ≡ n
integer_content_one_value m n c i j = sym i.value ∙ j.value

-- where the first bit is not set, or nothing is there, the value is the sum of the digits
pub unsigned_value : (octets : List ℕ) → get_or octets 0 0 < 128 →
    twos_complement_value octets ≡ pos (base_256_value octets)
unsigned_value [] h = refl
unsigned_value (first ∷ others) h = value_low first others h

-- where the first bit is set it is no natural number
pub negative_value : (octets : List ℕ) (n : ℕ) → IsOctets octets → 128 ≤ get_or octets 0 0 →
    twos_complement_value octets ≡ pos n → ⊥
negative_value [] n o h e = omega arith
negative_value (first ∷ others) n o h e =
    omega (arith, ints, value_high first others h, octets_value_below (first ∷ others) o, e)

-- zeros in front say nothing
pub leading_zeros : (k : ℕ) (octets : List ℕ) → base_256_value (replicate k 0 ++ octets) ≡ base_256_value octets
leading_zeros zero octets = refl
leading_zeros (suc k) octets = omega (arith, leading_zeros k octets)

-- a first octet that is not 0 has its weight
pub no_leading_zero_value : (octets : List ℕ) (k : ℕ) → HasNoLeadingZero octets → k < length octets →
    256 ^ k ≤ base_256_value octets
no_leading_zero_value [] k h l = absurd (omega arith)
no_leading_zero_value (first ∷ others) k h l =
    let p : 256 ^ k ≤ 256 ^ length others = pow-le-pow_right {n = 256} (lit≤ tt) (omega arith) in
    omega (arith, first_above 1 first others (omega arith), p)

-- and no more octets than these say less than this
pub few_octets_value : (octets : List ℕ) (k : ℕ) → IsOctets octets → length octets ≤ k → base_256_value octets < 256 ^ k
few_octets_value octets k o l =
    let p : 256 ^ length octets ≤ 256 ^ k = pow-le-pow_right {n = 256} (lit≤ tt) l in
    omega (arith, octets_value_below octets o, p)
