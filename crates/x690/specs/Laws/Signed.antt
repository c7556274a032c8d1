-- Laws of the strict contents octets of integers (X.690 8.3).
use Rattle.std.proofs.Common.{◌≡◌, ◌≢◌, ℕ, zero, suc, ◌+◌, ◌-◌, ◌*◌, ◌^◌, ◌<◌, ◌≤◌, ◌⊎◌, ◌↔◌, List, [], ◌∷◌, length}
use Rattle.std.proofs.Common.{map, drop, get_or, ℤ, pos, negsuc, refl, sym, ap, ◌∙◌, arith, subst, inl, inr, lit≤}
use Rattle.std.proofs.Math.Nat.{pow-suc, pow-le-pow_right}
use Rattle.std.proofs.lemmas.Int.{ints}
use Rattle.std.proofs.lemmas.Bool.{cases_lt}
use Rattle.x690.specs.Octets.{IsOctets}
use Rattle.x690.specs.Digits.{base_256_value, twos_complement_value}
use Rattle.x690.specs.Integers.{HasRedundantZeros, HasRedundantOnes, IsShortestInteger, IsIntegerContent, unsigned_octets}
use Rattle.x690.specs.Signed.{complement, signed_octets, IsSigned}
use Rattle.x690.specs.Laws.Integers.{value_low, value_high, first_below, first_above, octets_value_below, shortest_low}
use Rattle.x690.specs.Laws.Integers.{shortest_high}
use Rattle.x690.specs.Laws.Integers.Unsigned.{unsigned_octets_content, unsigned_octets_first, unsigned_octets_value}

-- no more octets than these say an integer of this size
pub octets_say_signed : (octets : List ℕ) (size : ℕ) → IsOctets octets → length octets ≤ size →
    IsSigned size (twos_complement_value octets)
octets_say_signed [] size o l =
    let p : 1 ≤ 256 ^ (size - 1) = pow-le-pow_right {n = 256} (lit≤ tt) {i = 0} (omega arith) in
    record { least = omega (arith, ints, p); most = omega (arith, ints, p) }
octets_say_signed (first ∷ others) size o l =
    let p : 256 ^ length others ≤ 256 ^ (size - 1) = pow-le-pow_right {n = 256} (lit≤ tt) (omega arith) in
    let w : 256 ^ suc (length others) ≡ 256 ^ length others * 256 = pow-suc 256 (length others) in
    elim (cases_lt first 128) [
      | inl h ↦
          let v = value_low first others h in
          let b = first_below 128 first others o h in
          record { least = omega (arith, ints, p, v, b); most = omega (arith, ints, p, v, b) }
      | inr h ↦
          let v = value_high first others h in
          let a = first_above 128 first others h in
          let b = octets_value_below (first ∷ others) o in
          record { least = omega (arith, ints, p, v, a, w); most = omega (arith, ints, p, v, b) }
    ]

-- and an integer of this size needs no more
pub signed_needs_few : (octets : List ℕ) (size : ℕ) → IsOctets octets → ¬ HasRedundantZeros octets → ¬ HasRedundantOnes octets →
    1 ≤ size → IsSigned size (twos_complement_value octets) → length octets ≤ size
signed_needs_few [] size o z n some s = omega arith
signed_needs_few (first ∷ []) size o z n some s = omega arith
signed_needs_few (first ∷ second ∷ others) size o z n some s = elim (cases_lt size (length (first ∷ second ∷ others))) [
  | inr l ↦ l
  | inl l ↦
      let p : 256 ^ (size - 1) ≤ 256 ^ length others = pow-le-pow_right {n = 256} (lit≤ tt) (omega arith) in
      elim (cases_lt first 128) [
        | inl h ↦ absurd
            (omega (arith, ints, p, s.most, value_low first (second ∷ others) h, shortest_low first second others z))
        | inr h ↦ absurd (omega (
          arith,
          ints,
          p,
          s.least,
          value_high first (second ∷ others) h,
          shortest_high first second others o n,
        ))
      ]
]

complement_octets : (octets : List ℕ) → IsOctets (map complement octets)
complement_octets [] k = omega arith
complement_octets (first ∷ others) zero = omega arith
complement_octets (first ∷ others) (suc k) = complement_octets others k

complement_shortest : (octets : List ℕ) → IsOctets octets → IsShortestInteger octets →
    IsShortestInteger (map complement octets)
complement_shortest [] o s = s
complement_shortest (first ∷ []) o s = ((λ e. cc), (λ h. h), (λ h. h))
complement_shortest (first ∷ second ∷ others) o s = (
  (λ e. cc),
  (λ h. s.2 (omega (arith, o 0, h.0), omega (arith, o 1, h.1))),
  (λ h. s.1 (omega (arith, o 0, h.0), omega (arith, o 1, h.1))),
)

length-complement : (octets : List ℕ) → length (map complement octets) ≡ length octets
length-complement [] = refl
length-complement (first ∷ others) = ap suc (length-complement others)

-- the digits of the one are what the digits of the other leave
complement_sum : (octets : List ℕ) → IsOctets octets →
    base_256_value (map complement octets) + base_256_value octets + 1 ≡ 256 ^ length octets
complement_sum [] o = refl
complement_sum (first ∷ others) o =
    let l = ap (λ (n : ℕ). complement first * 256 ^ n) (length-complement others) in
    let e : complement first + first ≡ 255 = omega (arith, o 0) in
    let m = ap (λ (n : ℕ). n * 256 ^ length others) e in
    omega (arith, complement_sum others (λ k. o (suc k)), l, m, pow-suc 256 (length others))

complement_value : (octets : List ℕ) → IsOctets octets → octets ≢ [] → get_or octets 0 0 < 128 →
    twos_complement_value (map complement octets) ≡ negsuc (base_256_value octets)
complement_value [] o s h = absurd (s refl)
complement_value (first ∷ others) o s h =
    let l = ap (λ (n : ℕ). 256 ^ suc n) (length-complement others) in
    omega (
      arith,
      ints,
      value_high (complement first) (map complement others) (omega arith),
      complement_sum (first ∷ others) o,
      l,
    )

-- they are the contents octets of their integer
pub signed_octets_content : (n : ℤ) → IsIntegerContent n (signed_octets n)
unfolding signed_octets
signed_octets_content (pos n) = unsigned_octets_content n
signed_octets_content (negsuc n) =
    let i = unsigned_octets_content n in
    record {
      octets = complement_octets (unsigned_octets n);
      shortest = complement_shortest (unsigned_octets n) i.octets i.shortest;
      value = complement_value (unsigned_octets n) i.octets i.shortest.0 (unsigned_octets_first n)
          ∙ ap negsuc (unsigned_octets_value n);
    }

-- they are as many as those of the natural number that it is, or of which it is the complement
pub signed_octets_length : (n : ℤ) (m : ℕ) → (n ≡ pos m) ⊎ (n ≡ negsuc m) →
    length (signed_octets n) ≡ length (unsigned_octets m)
unfolding signed_octets
signed_octets_length n m (inl e) = ap (λ (k : ℤ). length (signed_octets k)) e
signed_octets_length n m (inr e) = ap (λ (k : ℤ). length (signed_octets k)) e ∙ length-complement (unsigned_octets m)

-- an integer is of the sizes from the number of its octets on
pub signed_octets_few : (n : ℤ) (size : ℕ) → 1 ≤ size → IsSigned size n → length (signed_octets n) ≤ size
signed_octets_few n size some s =
    let i = signed_octets_content n in
    signed_needs_few (signed_octets n) size i.octets i.shortest.1 i.shortest.2 some
    (subst (IsSigned size) (sym i.value) s)

-- An integer whose strict contents octets are so many at most is one of as many octets.
pub signed_octets_fit : (n : ℤ) (size : ℕ) → length (signed_octets n) ≤ size → IsSigned size n
signed_octets_fit n size l =
    let i = signed_octets_content n in
    subst (IsSigned size) i.value (octets_say_signed (signed_octets n) size i.octets l)

-- An integer is one of so many octets exactly where its strict contents octets are no more.
pub signed_octets_count : (n : ℤ) (size : ℕ) → 1 ≤ size → IsSigned size n ↔ (length (signed_octets n) ≤ size)
signed_octets_count n size some = (signed_octets_few n size some, signed_octets_fit n size)

-- an octet in front that could be left out says nothing
pub redundant_zeros_say_nothing : (octets : List ℕ) → HasRedundantZeros octets →
    twos_complement_value (drop 1 octets) ≡ twos_complement_value octets
redundant_zeros_say_nothing [] h = absurd h
redundant_zeros_say_nothing (first ∷ []) h = absurd h
redundant_zeros_say_nothing (first ∷ second ∷ others) h =
    let m = ap (λ (n : ℕ). n * 256 ^ suc (length others)) h.0 in
    omega (arith, ints, value_low first (second ∷ others) (omega (arith, h.0)), value_low second others h.1, m)

-- Leading ones that are spare say nothing.
pub redundant_ones_say_nothing : (octets : List ℕ) → HasRedundantOnes octets →
    twos_complement_value (drop 1 octets) ≡ twos_complement_value octets
redundant_ones_say_nothing [] h = absurd h
redundant_ones_say_nothing (first ∷ []) h = absurd h
redundant_ones_say_nothing (first ∷ second ∷ others) h =
    let m = ap (λ (n : ℕ). n * 256 ^ suc (length others)) h.0 in
    omega (
      arith,
      ints,
      value_high first (second ∷ others) (omega (arith, h.0)),
      value_high second others h.1,
      m,
      pow-suc 256 (suc (length others)),
    )
