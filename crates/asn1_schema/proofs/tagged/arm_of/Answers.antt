use Rattle.std.proofs.Common.{refl, arith}
use Rattle.std.proofs.lemmas.Option.{slice_get-get_or, slice_get_within}
use Rattle.asn1_schema.specs.Sound.{HasTagAt}
use Rattle.asn1_schema.specs.Reading.{id_of}
use Rattle.asn1_schema.proofs.Taken.{arm_next}
use Rattle.asn1_schema.proofs.tagged.arm_of.Goals as goal

pub returns-then-is_tagged-clause-some : goal.returns-then-is_tagged-clause-some
returns-then-is_tagged-clause-some c =
    (slice_get-get_or c.args.arms.now c.loop-k.k 0 (grind (arith, c.loop-k-test.true)), c.if-is_tagged.ensures.yes refl)

pub loop-k-preserved : goal.loop-k-preserved
loop-k-preserved c = arm_next (λ t. HasTagAt c.args.nodes.now t (id_of c.args.head)) c.args.arms.now c.loop-k.k
    c.loop-k.invariant (slice_get-get_or c.args.arms.now c.loop-k.k 0 (grind (arith, c.loop-k-test.true)))
    (λ h. let y = c.if-is_tagged.ensures.no h in absurd (cc))

pub returns-clause-none : goal.returns-clause-none
returns-clause-none c = λ k t e h. let w = slice_get_within c.args.arms.now k t e in
    c.loop-k.invariant k (grind (arith, c.loop-k-test.false, w)) t e h
