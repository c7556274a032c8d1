use Rattle.std.proofs.Common.{◌∙◌, ap, sym, subst, ℕ, ◌+◌, ◌*◌, ◌<◌, get_or, false, arith}
use Rattle.asn1_json.specs.Leaves.{number_of_bits}
use Rattle.asn1_json.proofs.OctetsOfBits.{few_bits, bit_few, next_bit}
use Rattle.asn1_json.proofs.bits.first_octet.Goals as goal

pub overflow_mul-octet : goal.overflow_mul-octet
overflow_mul-octet c =
    let few : c.loop-place.octet < 128 = subst (λ (n : ℕ). n < 128) (sym c.loop-place.invariant)
    (few_bits c.loop-place.place c.args.bits.now c.loop-place-test.true) in
    omega (arith, few)

pub overflow_add-octet : goal.overflow_add-octet
overflow_add-octet c =
    let few : c.loop-place.octet < 128 = subst (λ (n : ℕ). n < 128) (sym c.loop-place.invariant)
    (few_bits c.loop-place.place c.args.bits.now c.loop-place-test.true) in
    let one = bit_few (get_or c.args.bits.now c.loop-place.place false) in
    omega (arith, few, one, c.bit_at.ensures)

pub loop-place-preserved : goal.loop-place-preserved
loop-place-preserved c =
    ap (λ (n : ℕ). n * 2 + c.bit_at.result) c.loop-place.invariant
    ∙ ap (λ (n : ℕ). number_of_bits c.loop-place.place c.args.bits.now * 2 + n) c.bit_at.ensures
    ∙ sym (next_bit c.loop-place.place c.args.bits.now)
