-- An integer that 16 octets do not hold is below all that they hold, or above them.
use Rattle.std.proofs.Common.{◌≡◌, ℕ, ◌<◌, ◌≤◌, List, [], ◌∷◌, get_or, ℤ, pos, arith}
use Rattle.std.specs.Prelude.{◌≤ℤ◌, ◌<ℤ◌, Option, Some, None, IfSome}
use Rattle.std.proofs.lemmas.Int.{ints, by_lt_z}
use Rattle.x690.specs.Octets.{IsOctets}
use Rattle.x690.specs.Digits.{twos_complement_value}
use Rattle.x690.specs.Signed.{IsSigned}
use Rattle.x690.specs.Laws.Integers.{value_low, value_high, octets_value_below}
use Rattle.asn1_schema.specs.Grammar.{IsBetween}

above : (v n : ℤ) → pos 0 ≤ℤ v → (IsSigned 16 v → ⊥) → IsSigned 16 n → n <ℤ v
above v n natural not s = by_lt_z n v (λ l. l) (λ (le : v ≤ℤ n). absurd (not (record {
  least = omega (arith, ints, natural);
  most = omega (arith, ints, le, s.most);
})))

below : (v n : ℤ) → v <ℤ pos 0 → (IsSigned 16 v → ⊥) → IsSigned 16 n → v <ℤ n
below v n negative not s = by_lt_z v n (λ l. l) (λ (le : n ≤ℤ v). absurd (not (record {
  least = omega (arith, ints, le, s.least);
  most = omega (arith, ints, negative);
})))

-- the first octet has the sign
negative_first : (octets : List ℕ) → IsOctets octets → 128 ≤ get_or octets 0 0 → twos_complement_value octets <ℤ pos 0
negative_first [] o h = absurd (omega (arith, h))
negative_first (first ∷ others) o h =
    let v = value_high first others h in
    let b = octets_value_below (first ∷ others) o in
    omega (arith, ints, v, b)

natural_first : (octets : List ℕ) → get_or octets 0 0 < 128 → pos 0 ≤ℤ twos_complement_value octets
natural_first [] h = omega (arith, ints)
natural_first (first ∷ others) h =
    let v = value_low first others h in
    omega (arith, ints, v)

-- where the bound on its side is none, it is between the bounds, and else not
module _ (octets : List ℕ) (o : IsOctets octets) (not : IsSigned 16 (twos_complement_value octets) → ⊥) where
  low_end : (upper : Option ℤ) → IfSome upper (λ n. IsSigned 16 n) → 128 ≤ get_or octets 0 0 →
      IfSome upper (λ n. twos_complement_value octets ≤ℤ n)
  low_end None held h = tt
  low_end (Some n) held h =
      let l = below (twos_complement_value octets) n (negative_first octets o h) not held in omega (arith, ints, l)

  high_end : (lower : Option ℤ) → IfSome lower (λ n. IsSigned 16 n) → get_or octets 0 0 < 128 →
      IfSome lower (λ n. n ≤ℤ twos_complement_value octets)
  high_end None held h = tt
  high_end (Some n) held h =
      let l = above (twos_complement_value octets) n (natural_first octets h) not held in omega (arith, ints, l)

  pub low_within : (lower upper : Option ℤ) → IfSome upper (λ n. IsSigned 16 n) → 128 ≤ get_or octets 0 0 →
      lower ≡ None → IsBetween lower upper (twos_complement_value octets)
  low_within None upper held h none = (tt, low_end upper held h)
  low_within (Some n) upper held h none = absurd (cc (none))

  pub high_within : (lower upper : Option ℤ) → IfSome lower (λ n. IsSigned 16 n) → get_or octets 0 0 < 128 →
      upper ≡ None → IsBetween lower upper (twos_complement_value octets)
  high_within lower None held h none = (high_end lower held h, tt)
  high_within lower (Some n) held h none = absurd (cc (none))

  pub low_outside : (lower upper : Option ℤ) (n : ℤ) → IfSome lower (λ n. IsSigned 16 n) → 128 ≤ get_or octets 0 0 →
      lower ≡ Some n → IsBetween lower upper (twos_complement_value octets) → ⊥
  low_outside None upper n held h some between = absurd (cc (some))
  low_outside (Some m) upper n held h some between =
      let l = below (twos_complement_value octets) m (negative_first octets o h) not held in
      let k = between.0 in absurd (omega (arith, ints, l, k))

  pub high_outside : (lower upper : Option ℤ) (n : ℤ) → IfSome upper (λ n. IsSigned 16 n) → get_or octets 0 0 < 128 →
      upper ≡ Some n → IsBetween lower upper (twos_complement_value octets) → ⊥
  high_outside lower None n held h some between = absurd (cc (some))
  high_outside lower (Some m) n held h some between =
      let l = above (twos_complement_value octets) m (natural_first octets h) not held in
      let k = between.1 in absurd (omega (arith, ints, l, k))
