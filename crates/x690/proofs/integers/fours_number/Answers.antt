use Rattle.std.proofs.Common.{◌≡◌, ℕ, zero, suc, ◌+◌, ◌-◌, ◌*◌, ◌/◌, ◌^◌, ◌≤◌, List, length, take, drop, get_or}
use Rattle.std.proofs.Common.{take-append-drop, ap, subst, sym, ◌∙◌, arith}
use Rattle.std.proofs.lemmas.List.{length-take, length-drop, take_all}
use Rattle.x690.specs.Octets.{IsOctets}
use Rattle.x690.specs.Laws.Octets.{octets_front}
use Rattle.x690.specs.Digits.{base_256_value}
use Rattle.x690.specs.Laws.Digits.{weighted_sum_more, weighted_sum_append}
use Rattle.x690.specs.Laws.Integers.{few_octets_value}
use Rattle.x690.proofs.integers.fours_number.Goals as goal

-- of the first four octets, those before the last four of all
front_is : (octets : List ℕ) (before : ℕ) → IsOctets octets → length octets ≡ before + 4 → before ≤ 4 →
    base_256_value (take 4 octets) / 2 ^ (8 * (4 - before)) ≡ base_256_value (take before octets)
front_is octets before o l h =
    let first = weighted_sum_more 256 octets 0 (omega arith) in
    let second = weighted_sum_more 256 octets 1 (omega arith) in
    let third = weighted_sum_more 256 octets 2 (omega arith) in
    let fourth = weighted_sum_more 256 octets 3 (omega arith) in
    cases before first second third fourth h
  where
    cases : (before : ℕ) → base_256_value (take 1 octets) ≡ base_256_value (take 0 octets) * 256 + get_or octets 0 0 →
        base_256_value (take 2 octets) ≡ base_256_value (take 1 octets) * 256 + get_or octets 1 0 →
        base_256_value (take 3 octets) ≡ base_256_value (take 2 octets) * 256 + get_or octets 2 0 →
        base_256_value (take 4 octets) ≡ base_256_value (take 3 octets) * 256 + get_or octets 3 0 → before ≤ 4 →
        base_256_value (take 4 octets) / 2 ^ (8 * (4 - before)) ≡ base_256_value (take before octets)
    cases zero a b c d h = omega (arith, o 0, o 1, o 2, o 3)
    cases (suc zero) a b c d h = omega (arith, o 0, o 1, o 2, o 3)
    cases (suc (suc zero)) a b c d h = omega (arith, o 0, o 1, o 2, o 3)
    cases (suc (suc (suc zero))) a b c d h = omega (arith, o 0, o 1, o 2, o 3)
    cases (suc (suc (suc (suc zero)))) a b c d h = omega (arith, o 0, o 1, o 2, o 3)
    cases (suc (suc (suc (suc (suc before))))) a b c d h = absurd (omega arith)

-- the octets before the last four, and these
parts_are : (octets : List ℕ) (before : ℕ) → length octets ≡ before + 4 → base_256_value (take before octets) *
    4294967296 + base_256_value (take 4 (take (length octets - before) (drop before octets))) ≡ base_256_value octets
parts_are octets before l =
    let four : length (drop before octets) ≡ 4 = omega (arith, length-drop before octets) in
    let back : take 4 (take (length octets - before) (drop before octets)) ≡ drop before octets =
    ap (take 4) (take_all (length octets - before) (drop before octets) (omega arith))
    ∙ take_all 4 (drop before octets) (omega arith) in
    let whole = ap base_256_value (sym (take-append-drop before octets))
    ∙ weighted_sum_append 256 (take before octets) (drop before octets) in
    rw (back) (sym
    (whole ∙ ap (λ n. base_256_value (take before octets) * 256 ^ n + base_256_value (drop before octets)) four))

pub returns : goal.returns
returns c =
    let octets = c.args.digits.now in
    let before = length octets - 4 in
    let o : IsOctets octets = λ k. omega (arith, c.type_inv.digits k) in
    let front = front_is octets before o (omega arith) (omega arith) in
    rw (c.first_four.ensures, c.first_four-2.ensures, front) (parts_are octets before (omega arith))

pub overflow_mul-result : goal.overflow_mul-result
overflow_mul-result c =
    let octets = c.args.digits.now in
    let before = length octets - 4 in
    let o : IsOctets octets = λ k. omega (arith, c.type_inv.digits k) in
    let front = front_is octets before o (omega arith) (omega arith) in
    let small = few_octets_value (take before octets) 4 (octets_front (take before octets) (drop before octets)
    (subst IsOctets (sym (take-append-drop before octets)) o)) (omega (
      arith,
      length-take before octets,
    )) in
    rw (c.first_four.ensures, front) (omega (arith, small))

pub overflow_add-result : goal.overflow_add-result
overflow_add-result c = omega (
  arith,
  returns c,
  few_octets_value c.args.digits.now 8 (λ k. omega (arith, c.type_inv.digits k)) (omega arith),
)
