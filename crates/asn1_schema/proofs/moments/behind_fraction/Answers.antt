use Rattle.asn1_schema.specs.Joined.{said}
use Rattle.asn1_schema.proofs.MomentTexts.{no_fraction, if_fraction, fraction_only, fraction_other, fraction_empty, local_no_digit}
use Rattle.asn1_schema.proofs.moments.behind_fraction.Goals as goal

pub returns-then-not-is_point-clause-some : goal.returns-then-not-is_point-clause-some
returns-then-not-is_point-clause-some c = no_fraction (said c.args.text)

pub returns-then-not-is_point-clause-only : goal.returns-then-not-is_point-clause-only
returns-then-not-is_point-clause-only c = λ zone l b. fraction_other (said c.args.text) (said c.in-Some.digits) zone c.in-Some.point
    (λ p. let y = c.is_point.ensures.1 p in let n = c.if-not-is_point.true in absurd (cc)) c.in-Some.ensures.some b

pub returns-else-not-is_point-clause-some : goal.returns-else-not-is_point-clause-some
returns-else-not-is_point-clause-some c = if_fraction (said c.args.text) (said c.in-Some.digits) c.in-Some.point
    (c.is_point.ensures.0 c.if-not-is_point.false) c.in-Some.ensures.some c.behind_some_digits.result
    c.behind_some_digits.ensures.some

pub returns-else-not-is_point-clause-only : goal.returns-else-not-is_point-clause-only
returns-else-not-is_point-clause-only c = λ zone l b. c.behind_some_digits.ensures.only zone (local_no_digit zone l)
    (fraction_only (said c.args.text) (said c.in-Some.digits) zone c.in-Some.point
    (c.is_point.ensures.0 c.if-not-is_point.false) c.in-Some.ensures.some l b)

pub returns-in-None-clause-some : goal.returns-in-None-clause-some
returns-in-None-clause-some c = no_fraction (said c.args.text)

pub returns-in-None-clause-only : goal.returns-in-None-clause-only
returns-in-None-clause-only c = λ zone l b. fraction_empty (said c.args.text) zone c.in-None.ensures.none b
