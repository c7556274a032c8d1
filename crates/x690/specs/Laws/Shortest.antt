-- The shortest identifier octets and length octets are the strict ones (X.690 8.1.2, 10.1).
use Rattle.std.proofs.Common.{◌≡◌, ◌≢◌, ℕ, ◌+◌, ◌*◌, ◌^◌, ◌<◌, ◌≤◌, Bool, true, false, not, ◌&&◌, List, [], ◌∷◌, length}
use Rattle.std.proofs.Common.{suc, refl, sym, ap, ◌∙◌, arith, subst, inl, inr, lit≤}
use Rattle.std.specs.Prelude.{nat_le, nat_eq}
use Rattle.std.proofs.Math.Nat.{pow-le-pow_right, mul-le-mul_right}
use Rattle.std.proofs.lemmas.Bool.{cases_lt}
use Rattle.std.proofs.lemmas.Bool.Decides.{leb_tells, eqb_tells}
use Rattle.x690.specs.Octets.{IsOctets}
use Rattle.x690.specs.Digits.{base_128_value, base_256_value}
use Rattle.x690.specs.Identifiers.{Identifier, IsIdentifier, IsStrictIdentifier}
use Rattle.x690.specs.Lengths.{IsLength, IsStrictLength, definite}
use Rattle.x690.specs.Rules.{are_shortest_identifier, are_shortest_length}
use Rattle.x690.specs.Laws.Digits.Sums.{weighted_sum_lt}
use Rattle.x690.specs.Laws.Lengths.{length_form_some}
use Rattle.x690.specs.Laws.Octets.{octets_below}
use Rattle.x690.specs.Laws.StrictLengths.{strict_length, length_fits, length_octets_count_high, digits_few}

-- What the test of high form and of long form tells.

and_not : (a b : Bool) → a && not b ≡ true → (a ≡ true) × (b ≡ false)
and_not true false e = (refl, refl)
and_not true true e = cc
and_not false b e = cc

not_true_false : (b : Bool) → b ≡ true → b ≡ false → ⊥
not_true_false b p q = let e : true ≡ false = sym p ∙ q in cc

-- the number is the least at least, and the first digit is not that of no weight
tells : (least number digit redundant : ℕ) → nat_le least number && not (nat_eq digit redundant) ≡ true →
    (least ≤ number) × (digit ≢ redundant)
tells least number digit redundant e =
    let b = and_not (nat_le least number) (nat_eq digit redundant) e in
    elim (leb_tells least number) [
      | inr p ↦ absurd (not_true_false (nat_le least number) b.0 p.0)
      | inl p ↦ elim (eqb_tells digit redundant) [
        | inl q ↦ absurd (not_true_false (nat_eq digit redundant) q.0 b.1)
        | inr q ↦ (p.1, q.1)
      ]
    ]

both : (a b : Bool) → a ≡ true → b ≡ false → a && not b ≡ true
both a b p q = ap (λ (c : Bool). c && not b) p ∙ ap (λ (c : Bool). not c) q

told : (least number digit redundant : ℕ) → least ≤ number → digit ≢ redundant →
    nat_le least number && not (nat_eq digit redundant) ≡ true
told least number digit redundant l n = elim (leb_tells least number) [
  | inr p ↦ absurd (omega (arith, p.1))
  | inl p ↦ elim (eqb_tells digit redundant) [
    | inl q ↦ absurd (n q.1)
    | inr q ↦ both (nat_le least number) (nat_eq digit redundant) p.0 q.0
  ]
]

-- Of the identifier octets that say one thing, those that the test takes are the strict ones.
pub shortest_identifier_strict : (o : List ℕ) (id : Identifier) → IsIdentifier o id →
    are_shortest_identifier o ≡ true → IsStrictIdentifier o id
shortest_identifier_strict [] id i t = absurd i
shortest_identifier_strict (first ∷ []) id i t = (i, tt)
shortest_identifier_strict (first ∷ digit ∷ digits) id i t =
    let s = tells 31 (base_128_value (digit ∷ digits)) digit 128 t in
    elim i.4 [
      | inl low ↦ let e : digit ∷ digits ≡ [] = low.2 in absurd (cc)
      | inr high ↦ (i, (omega (arith, s.0, high.3), s.1))
    ]

-- The test takes these.
pub strict_identifier_shortest : (o : List ℕ) (id : Identifier) → IsStrictIdentifier o id →
    are_shortest_identifier o ≡ true
strict_identifier_shortest [] id s = absurd s.0
strict_identifier_shortest (first ∷ []) id s = refl
strict_identifier_shortest (first ∷ digit ∷ digits) id s = elim s.0.4 [
  | inl low ↦ let e : digit ∷ digits ≡ [] = low.2 in absurd (cc)
  | inr high ↦ told 31 (base_128_value (digit ∷ digits)) digit 128 (omega (arith, s.1.0, high.3)) s.1.1
]

-- octets of which the first is not 0 say a power of 256 at least
octets_ge : (octet : ℕ) (octets : List ℕ) → octet ≢ 0 → 256 ^ length octets ≤ base_256_value (octet ∷ octets)
octets_ge octet octets n =
    let some : 1 ≤ octet = elim (cases_lt 0 octet) [
      | inl p ↦ p
      | inr p ↦ absurd (n (omega arith))
    ] in
    omega (arith, mul-le-mul_right (256 ^ length octets) some)

powers : (k m : ℕ) → m ≤ k → 256 ^ m ≤ 256 ^ k
powers k m h = pow-le-pow_right {n = 256} (lit≤ tt) h

value_lt : (os : List ℕ) → IsOctets os → base_256_value os < 256 ^ length os
value_lt os o = weighted_sum_lt 256 os (octets_below os o)

-- no length octets of the number are fewer than those whose first one is needed
no_fewer : (n octet : ℕ) (octets : List ℕ) → base_256_value (octet ∷ octets) ≡ n → 128 ≤ n → octet ≢ 0 →
    (q : List ℕ) → IsLength q n → length octets + 2 ≤ length q
no_fewer n octet octets e h s q (inl l) = absurd (omega (arith, l.0))
no_fewer n octet octets e h s [] (inr l) = absurd l
no_fewer n octet octets e h s (k ∷ os) (inr l) = elim (cases_lt (length octets) (length os)) [
  | inl p ↦ omega arith
  | inr p ↦ absurd (omega (
    arith,
    octets_ge octet octets s,
    powers (length octets) (length os) p,
    value_lt os l.3,
    l.4,
    e,
  ))
]

-- Of the length octets that say one number, those that the test takes are the strict ones.
pub shortest_length_strict : (o : List ℕ) (n : ℕ) → IsLength o n → are_shortest_length o ≡ true → IsStrictLength o n
shortest_length_strict [] n (inl l) t = let e = l.1 in absurd (cc)
shortest_length_strict [] n (inr l) t = absurd l
shortest_length_strict (first ∷ []) n l t =
    record { lenient = l; fewest = λ q m. length_form_some q (definite n) m }
shortest_length_strict (first ∷ octet ∷ octets) n (inl l) t = let e = l.1 in absurd (cc)
shortest_length_strict (first ∷ octet ∷ octets) n (inr l) t =
    let s = tells 128 (base_256_value (octet ∷ octets)) octet 0 t in
    record {
      lenient = inr l;
      fewest = λ q m. omega (arith, no_fewer n octet octets l.4 (omega (arith, s.0, l.4)) s.1 q m);
    }

-- a first octet that is 0 is one too many
no_redundant : (first octet n : ℕ) (octets : List ℕ) → IsStrictLength (first ∷ octet ∷ octets) n → 128 ≤ n →
    IsOctets (octet ∷ octets) → base_256_value (octet ∷ octets) ≡ n → octet ≢ 0
no_redundant first octet n octets s h o e z =
    let f = length_fits n (first ∷ octet ∷ octets) s.lenient in
    let w = s.fewest _ (strict_length n f).lenient in
    let none : octet * 256 ^ length octets ≡ 0 * 256 ^ length octets = ap (λ (k : ℕ). k * 256 ^ length octets) z in
    let v : base_256_value octets ≡ n = omega (arith, none, e) in
    let few = digits_few n (length octets) (subst (λ (k : ℕ). k < 256 ^ length octets) v
    (value_lt octets (λ k. o (suc k)))) in
    omega (arith, w, few, length_octets_count_high n h)

-- The test takes these.
pub strict_length_shortest : (o : List ℕ) (n : ℕ) → IsStrictLength o n → are_shortest_length o ≡ true
strict_length_shortest o n s = long o n s s.lenient
  where
    long : (o : List ℕ) (n : ℕ) → IsStrictLength o n → IsLength o n → are_shortest_length o ≡ true
    long [] n s (inl l) = let e = l.1 in absurd (cc)
    long [] n s (inr l) = absurd l
    long (first ∷ []) n s l = refl
    long (first ∷ octet ∷ octets) n s (inl l) = let e = l.1 in absurd (cc)
    long (first ∷ octet ∷ octets) n s (inr l) = elim (cases_lt n 128) [
      | inl h ↦ absurd (omega (arith, s.fewest (n ∷ []) (inl (h, refl))))
      | inr h ↦ told 128 (base_256_value (octet ∷ octets)) octet 0 (omega (arith, h, l.4))
          (no_redundant first octet n octets s h l.3 l.4)
    ]
