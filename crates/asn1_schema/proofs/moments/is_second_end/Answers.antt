use Rattle.asn1_schema.specs.Joined.{said}
use Rattle.std.proofs.Common.{false}
use Rattle.asn1_schema.specs.Moments.{Then, IsFractionEnd}
use Rattle.asn1_schema.proofs.MomentTexts.{then_some, then_none, either, or_else}
use Rattle.asn1_schema.proofs.moments.is_second_end.Goals as goal

pub returns-then-is_fraction_end : goal.returns-then-is_fraction_end
returns-then-is_fraction_end c = either (IsFractionEnd (said c.args.text)) (Then 59 IsFractionEnd (said c.args.text)) c.is_fraction_end.result c.is_fraction_end.ensures
    c.if-is_fraction_end.true

pub returns-in-Some : goal.returns-in-Some
returns-in-Some c = or_else (IsFractionEnd (said c.args.text)) (Then 59 IsFractionEnd (said c.args.text)) c.is_fraction_end.result c.is_fraction_end-in-Some.result
    c.is_fraction_end.ensures c.if-is_fraction_end.false
    (then_some 59 IsFractionEnd (said c.args.text) c.is_fraction_end-in-Some.result (said c.in-Some.rest) c.in-Some.ensures.some
    c.in-Some.ensures.only c.is_fraction_end-in-Some.ensures)

pub returns-in-None : goal.returns-in-None
returns-in-None c = or_else (IsFractionEnd (said c.args.text)) (Then 59 IsFractionEnd (said c.args.text)) c.is_fraction_end.result false
    c.is_fraction_end.ensures c.if-is_fraction_end.false (then_none 59 IsFractionEnd (said c.args.text) c.in-None.ensures.only)
