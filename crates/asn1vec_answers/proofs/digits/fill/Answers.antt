use Rattle.std.proofs.Common.{◌/◌, ◌%◌, arith}
use Rattle.asn1vec_answers.proofs.Hexadecimal.{digits_at, pair_read}
use Rattle.asn1vec_answers.proofs.digits.fill.Goals as goal

pub pairs-preserved : goal.pairs-preserved
pairs-preserved c =
    pair_read c.pairs.octets c.args.digits.now c.pairs.i _ _ (omega arith) (omega arith)
    (c.number_of-high.ensures.digit (omega arith)) (c.number_of-low.ensures.digit (omega arith)) c.pairs.invariant

pub returns-then-max-gt15-clause-none : goal.returns-then-max-gt15-clause-none
returns-then-max-gt15-clause-none c = λ found octets h.
    let at = digits_at octets c.args.digits.now c.pairs.i h (omega arith) in
    let first = c.number_of-high.ensures.none (at.0 / 16) at.1 in
    let second = c.number_of-low.ensures.none (at.0 % 16) at.2 in
    omega (arith, first, second, at.1.0, at.2.0)
