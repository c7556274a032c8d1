use Rattle.std.proofs.Common.{rules, ◌≡◌, arith, subst, sym, ap, ◌∙◌, to_z, of_z}
use Rattle.std.specs.Int.{w128}
use Rattle.std.proofs.lemmas.Int.{ints}
use Rattle.std.proofs.lemmas.List.{take_all}
use Rattle.x690.specs.Octets.{IsOctets}
use Rattle.x690.specs.Digits.{twos_complement_value}
use Rattle.x690.specs.Signed.{IsSigned}
use Rattle.x690.specs.Laws.Signed.{signed_needs_few, octets_say_signed}
use Rattle.x690.proofs.SignedSums.{signed_sum, sum_is_value, sum_more, sum_is_small}
use Rattle.x690.proofs.signed.signed_number.Goals as goal

pub returns-then-rest-most-clause-none : goal.returns-then-rest-most-clause-none
returns-then-rest-most-clause-none c s =
    let o : IsOctets c.fewest_octets-rest.result.now = search rules in
    let r = c.fewest_octets-rest.ensures in
    omega (
      arith,
      c.if-rest-most.true,
      signed_needs_few c.fewest_octets-rest.result.now c.args.most o (r.zeros (omega arith))
          (r.ones (omega arith)) c.requires.some (subst (IsSigned c.args.most) (sym r.value) s),
    )

pub overflow_mul-number : goal.overflow_mul-number
overflow_mul-number c =
    let o : IsOctets c.fewest_octets-rest.result.now = λ k. omega (arith, c.type_inv.rest k) in
    let small = sum_is_small c.is_negative-negative.result c.fewest_octets-rest.result.now c.loop-octet.octet-index o
    c.is_negative-negative.ensures (omega arith) (omega arith) in
    omega (arith, ints, small, c.loop-octet.invariant)

pub loop-octet-preserved : goal.loop-octet-preserved
loop-octet-preserved c =
    let o : IsOctets c.fewest_octets-rest.result.now = λ k. omega (arith, c.type_inv.rest k) in
    let small = sum_is_small c.is_negative-negative.result c.fewest_octets-rest.result.now c.loop-octet.octet-index o
    c.is_negative-negative.ensures (omega arith) (omega arith) in
    let more =
    sum_more c.is_negative-negative.result c.fewest_octets-rest.result.now c.loop-octet.octet-index (omega arith) in
    omega (arith, ints, small, more, c.loop-octet.invariant, c.from.ensures, o c.loop-octet.octet-index)

pub returns-clause-fits : goal.returns-clause-fits
returns-clause-fits c =
    let o : IsOctets c.fewest_octets-rest.result.now = search rules in
    let whole : to_z w128 c.loop-octet.number-bits ≡ twos_complement_value c.fewest_octets-rest.result.now =
    c.loop-octet.invariant
    ∙ ap (signed_sum c.is_negative-negative.result)
    (take_all c.loop-octet.octet-index c.fewest_octets-rest.result.now (omega arith))
    ∙ sum_is_value c.is_negative-negative.result c.fewest_octets-rest.result.now c.is_negative-negative.ensures in
    subst (IsSigned c.args.most) (sym whole)
    (octets_say_signed c.fewest_octets-rest.result.now c.args.most o (omega arith))

pub returns-then-rest-le8-clause-fits : goal.returns-then-rest-le8-clause-fits
returns-then-rest-le8-clause-fits c =
    let o : IsOctets c.fewest_octets-rest.result.now = search rules in
    let b = octets_say_signed c.fewest_octets-rest.result.now 8 o (omega arith) in
    let e : to_z w128 (of_z w128 c.word_signed.result) ≡ twos_complement_value c.fewest_octets-rest.result.now =
    omega (arith, ints, b, c.word_signed.ensures) in
    subst (IsSigned c.args.most) (sym e) (octets_say_signed c.fewest_octets-rest.result.now c.args.most o (omega arith))
