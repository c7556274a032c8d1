use Rattle.std.proofs.Common.{arith}
use Rattle.asn1_schema.proofs.Counts.{value_first, value_later}
use Rattle.asn1_schema.proofs.counting.with_value.Goals as goal

pub returns-then-so_far-eq0-clause-same : goal.returns-then-so_far-eq0-clause-same
returns-then-so_far-eq0-clause-same c = λ ms. value_first c.args.so_far.values c.args.so_far.arms c.args.within ms
    (grind (arith, c.if-so_far-eq0.true))

pub returns-clause-same : goal.returns-clause-same
returns-clause-same c = λ ms. value_later c.args.so_far.values c.args.so_far.arms c.args.within ms
    (λ z. let f = c.if-so_far-eq0.false in grind (arith, f, z))
