use Rattle.std.proofs.Common.{arith, ◌∙◌}
use Rattle.asn1_schema.proofs.Counts.{no_arm_ends, arm_ends}
use Rattle.asn1_schema.proofs.counting.without_arm.Goals as goal

pub returns-then-so_far-eq0-clause-same : goal.returns-then-so_far-eq0-clause-same
returns-then-so_far-eq0-clause-same c = λ k ms. no_arm_ends c.args.so_far.values c.args.so_far.arms k ms
    (grind (arith, c.if-so_far-eq0.true))

pub returns-clause-same : goal.returns-clause-same
returns-clause-same c = λ k ms. arm_ends c.args.so_far.values c.args.so_far.arms k ms
    (λ z. let f = c.if-so_far-eq0.false in grind (arith, f, z)) ∙ c.with_value.ensures.same ms
