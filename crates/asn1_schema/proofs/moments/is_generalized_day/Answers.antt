use Rattle.asn1_schema.specs.Joined.{said}
use Rattle.asn1_schema.specs.Moments.{IsMinuteEnd}
use Rattle.asn1_schema.proofs.MomentTexts.{hour_some, hour_none}
use Rattle.asn1_schema.proofs.moments.is_generalized_day.Goals as goal

pub returns-in-Some : goal.returns-in-Some
returns-in-Some c = hour_some IsMinuteEnd (said c.args.text) c.is_minute_end.result (said c.in-Some.rest) c.in-Some.ensures.some
    c.in-Some.ensures.only c.is_minute_end.ensures

pub returns-in-None : goal.returns-in-None
returns-in-None c = hour_none IsMinuteEnd (said c.args.text) c.in-None.ensures.only
