use Rattle.std.proofs.Common.{◌∙◌, sym, arith}
use Rattle.asn1_schema.proofs.ZerosTaken.{set_last, some_later, none_later}
use Rattle.asn1_schema.proofs.bits.+lowest.Goals as goal

pub returns-then-is_bit_set-clause-some : goal.returns-then-is_bit_set-clause-some
returns-then-is_bit_set-clause-some t c = λ before. set_last before c.args.place c.args.octet
    (grind (arith, c.if-place-ge8.false)) (sym c.is_bit_set.ensures ∙ c.if-is_bit_set.true)

pub returns-clause-some : goal.returns-clause-some
returns-clause-some t c = λ before. some_later before c.args.place c.args.octet
    (grind (arith, c.if-place-ge8.false)) (sym c.is_bit_set.ensures ∙ c.if-is_bit_set.false) c.lowest_bit.result
    (c.lowest_bit.ensures.some before)

pub returns-clause-none : goal.returns-clause-none
returns-clause-none t c = λ before. none_later before c.args.place c.args.octet
    (grind (arith, c.if-place-ge8.false)) (sym c.is_bit_set.ensures ∙ c.if-is_bit_set.false) c.lowest_bit.result
    (c.lowest_bit.ensures.none before)
