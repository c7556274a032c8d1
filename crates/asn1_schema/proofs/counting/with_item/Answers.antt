use Rattle.std.proofs.Common.{◌∙◌, ap, arith}
use Rattle.asn1_schema.specs.Tape.{mark}
use Rattle.asn1_schema.proofs.Counts.{item_within, leaf_of, leaf_next, begin_next, pieces_next, arm_next, arm_end_next, end_next, pieces_end_next, absent_next}
use Rattle.asn1_schema.proofs.counting.with_item.Goals as goal

pub returns-then-so_far-ne0-clause-same : goal.returns-then-so_far-ne0-clause-same
returns-then-so_far-ne0-clause-same c = λ ms. item_within c.args.so_far.values c.args.so_far.arms c.args.so_far.within (mark c.args.item.now) ms
    (λ z. let f = c.if-so_far-ne0.true in grind (arith, f, z))

pub returns-in-Begin-clause-same : goal.returns-in-Begin-clause-same
returns-in-Begin-clause-same c = λ ms. begin_next c.args.so_far.values c.args.so_far.arms c.args.so_far.within c.args.item.now (grind (arith, c.if-so_far-ne0.false)) _ _ ms (ap mark c.in-Begin.is) (omega arith)
    ∙ c.with_value.ensures.same ms

pub returns-in-Pieces-clause-same : goal.returns-in-Pieces-clause-same
returns-in-Pieces-clause-same c = λ ms. pieces_next c.args.so_far.values c.args.so_far.arms c.args.so_far.within c.args.item.now (grind (arith, c.if-so_far-ne0.false)) _ _ ms (ap mark c.in-Pieces.is) (omega arith)
    ∙ c.with_value-in-Pieces.ensures.same ms

pub returns-in-Arm-clause-same : goal.returns-in-Arm-clause-same
returns-in-Arm-clause-same c = λ ms. arm_next c.args.so_far.values c.args.so_far.arms c.args.so_far.within c.args.item.now (grind (arith, c.if-so_far-ne0.false)) _ _ ms (ap mark c.in-Arm.is) (omega arith)

pub returns-in-ArmEnd-clause-same : goal.returns-in-ArmEnd-clause-same
returns-in-ArmEnd-clause-same c = λ ms. arm_end_next c.args.so_far.values c.args.so_far.arms c.args.so_far.within c.args.item.now (grind (arith, c.if-so_far-ne0.false)) c.in-ArmEnd.field-0 ms (ap mark c.in-ArmEnd.is)
    ∙ c.without_arm.ensures.same c.in-ArmEnd.field-0 ms

pub returns-in-End-clause-same : goal.returns-in-End-clause-same
returns-in-End-clause-same c = λ ms. end_next c.args.so_far.values c.args.so_far.arms c.args.so_far.within c.args.item.now (grind (arith, c.if-so_far-ne0.false)) _ ms (ap mark c.in-End.is)

pub returns-in-PiecesEnd-clause-same : goal.returns-in-PiecesEnd-clause-same
returns-in-PiecesEnd-clause-same c = λ ms. pieces_end_next c.args.so_far.values c.args.so_far.arms c.args.so_far.within c.args.item.now (grind (arith, c.if-so_far-ne0.false)) _ ms (ap mark c.in-PiecesEnd.is)

pub returns-in-Absent-clause-same : goal.returns-in-Absent-clause-same
returns-in-Absent-clause-same c = λ ms. absent_next c.args.so_far.values c.args.so_far.arms c.args.so_far.within c.args.item.now (grind (arith, c.if-so_far-ne0.false)) ms (ap mark c.in-Absent.is)

pub returns-in_default-clause-same : goal.returns-in_default-clause-same
returns-in_default-clause-same c = λ ms.
    let leaf = leaf_of c.args.item.now c.in_default.not-Begin c.in_default.not-End c.in_default.not-Absent c.in_default.not-Arm
    c.in_default.not-ArmEnd c.in_default.not-Pieces c.in_default.not-PiecesEnd in
    leaf_next c.args.so_far.values c.args.so_far.arms c.args.so_far.within c.args.item.now (grind (arith, c.if-so_far-ne0.false))
    leaf.0 ms leaf.1 ∙ c.with_value-in_default.ensures.same ms
