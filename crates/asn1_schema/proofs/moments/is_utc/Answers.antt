use Rattle.asn1_schema.specs.Joined.{said}
use Rattle.asn1_schema.specs.Moments.{Then, ThenHour, IsUtcEnd}
use Rattle.asn1_schema.proofs.MomentTexts.{then_some, then_none}
use Rattle.asn1_schema.proofs.moments.is_utc.Goals as goal

pub returns-in-Some : goal.returns-in-Some
returns-in-Some c = then_some 99 (ThenHour (Then 59 IsUtcEnd)) (said c.args.text) c.is_utc_day.result (said c.in-Some.rest) c.in-Some.ensures.some
    c.in-Some.ensures.only c.is_utc_day.ensures

pub returns-in-None : goal.returns-in-None
returns-in-None c = then_none 99 (ThenHour (Then 59 IsUtcEnd)) (said c.args.text) c.in-None.ensures.only
