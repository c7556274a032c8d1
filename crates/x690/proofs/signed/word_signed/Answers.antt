use Rattle.std.proofs.Common.{rules, ◌≡◌, ℕ, zero, suc, ◌+◌, ◌-◌, ◌*◌, ◌/◌, ◌^◌, ◌≤◌, Bool, true, false, List, length}
use Rattle.std.proofs.Common.{ℤ, pos, ◌-ℤ◌, refl, ap, ◌∙◌, arith}
use Rattle.std.proofs.lemmas.Int.{ints}
use Rattle.x690.specs.Octets.{IsOctets}
use Rattle.x690.specs.Digits.{base_256_value, twos_complement_value}
use Rattle.x690.specs.Laws.Integers.{few_octets_value}
use Rattle.x690.specs.Laws.Signed.{octets_say_signed}
use Rattle.x690.proofs.SignedSums.{IsSign, sum_is_value}
use Rattle.x690.proofs.signed.word_signed.Goals as goal

-- the greatest number of so many octets
most_is : (count : ℕ) → 1 ≤ count → count ≤ 8 → 18446744073709551615 / 2 ^ (8 * (8 - count)) + 1 ≡ 256 ^ count
most_is zero some few = absurd (omega arith)
most_is (suc zero) some few = refl
most_is (suc (suc zero)) some few = refl
most_is (suc (suc (suc zero))) some few = refl
most_is (suc (suc (suc (suc zero)))) some few = refl
most_is (suc (suc (suc (suc (suc zero))))) some few = refl
most_is (suc (suc (suc (suc (suc (suc zero)))))) some few = refl
most_is (suc (suc (suc (suc (suc (suc (suc zero))))))) some few = refl
most_is (suc (suc (suc (suc (suc (suc (suc (suc zero)))))))) some few = refl
most_is (suc (suc (suc (suc (suc (suc (suc (suc (suc count))))))))) some few = absurd (omega arith)

natural_is : (negative : Bool) (octets : List ℕ) → IsSign negative octets → negative ≡ false →
    pos (base_256_value octets) ≡ twos_complement_value octets
natural_is false octets s e = sum_is_value false octets s
natural_is true octets s e = absurd (search rules)

negative_is : (negative : Bool) (octets : List ℕ) → IsSign negative octets → negative ≡ true →
    pos (base_256_value octets) -ℤ pos (256 ^ length octets) ≡ twos_complement_value octets
negative_is false octets s e = absurd (search rules)
negative_is true octets s e = sum_is_value true octets s

value_is : (negative : Bool) (octets : List ℕ) (number most : ℕ) (value : ℤ) → IsSign negative octets →
    number ≡ base_256_value octets → most + 1 ≡ 256 ^ length octets → (negative ≡ false → value ≡ pos number) →
    (negative ≡ true → value ≡ pos number -ℤ pos (most + 1)) → value ≡ twos_complement_value octets
value_is false octets number most value s n m natural turned = natural refl ∙ ap pos n ∙ sum_is_value false octets s
value_is true octets number most value s n m natural turned = turned refl ∙ ap (λ w. pos w -ℤ pos (most + 1)) n
    ∙ ap (λ w. pos (base_256_value octets) -ℤ pos w) m ∙ sum_is_value true octets s

pub with_sign-requires-clause-within : goal.with_sign-requires-clause-within
with_sign-requires-clause-within c =
    let octets = c.args.octets.now in
    let o : IsOctets octets = λ k. omega (arith, c.type_inv.octets k) in
    omega (
      arith,
      c.word_number-number.ensures,
      most_is (length octets) (grind (arith, c.is_empty.ensures, c.if-is_empty.false)) c.requires.few,
      few_octets_value octets (length octets) o (omega arith),
    )

pub with_sign-requires-clause-natural : goal.with_sign-requires-clause-natural
with_sign-requires-clause-natural c = λ e.
    let octets = c.args.octets.now in
    let o : IsOctets octets = λ k. omega (arith, c.type_inv.octets k) in
    omega (
      arith,
      ints,
      c.word_number-number.ensures,
      natural_is c.args.negative octets c.requires.sign e,
      octets_say_signed octets 8 o c.requires.few,
    )

pub with_sign-requires-clause-turned : goal.with_sign-requires-clause-turned
with_sign-requires-clause-turned c = λ e.
    let octets = c.args.octets.now in
    let o : IsOctets octets = λ k. omega (arith, c.type_inv.octets k) in
    omega (
      arith,
      ints,
      c.word_number-number.ensures,
      most_is (length octets) (grind (arith, c.is_empty.ensures, c.if-is_empty.false)) c.requires.few,
      negative_is c.args.negative octets c.requires.sign e,
      octets_say_signed octets 8 o c.requires.few,
    )

pub returns : goal.returns
returns c =
    let octets = c.args.octets.now in
    let most = most_is (length octets) (grind (arith, c.is_empty.ensures, c.if-is_empty.false)) c.requires.few in
    let value = value_is c.args.negative octets c.word_number-number.result _ c.with_sign.result c.requires.sign
    c.word_number-number.ensures most c.with_sign.ensures.natural c.with_sign.ensures.turned in
    omega (arith, ints, value, c.from.ensures)
