use Rattle.asn1_schema.specs.Joined.{said}
use Rattle.std.proofs.Common.{false}
use Rattle.asn1_schema.specs.Moments.{Then, IsZoneText}
use Rattle.asn1_schema.proofs.MomentTexts.{then_some, then_none, either, or_else}
use Rattle.asn1_schema.proofs.moments.is_utc_end.Goals as goal

pub returns-then-is_zone : goal.returns-then-is_zone
returns-then-is_zone c = either (IsZoneText false (said c.args.text)) (Then 59 (IsZoneText false) (said c.args.text)) c.is_zone.result c.is_zone.ensures
    c.if-is_zone.true

pub returns-in-Some : goal.returns-in-Some
returns-in-Some c = or_else (IsZoneText false (said c.args.text)) (Then 59 (IsZoneText false) (said c.args.text)) c.is_zone.result c.is_zone-in-Some.result
    c.is_zone.ensures c.if-is_zone.false
    (then_some 59 (IsZoneText false) (said c.args.text) c.is_zone-in-Some.result (said c.in-Some.rest) c.in-Some.ensures.some
    c.in-Some.ensures.only c.is_zone-in-Some.ensures)

pub returns-in-None : goal.returns-in-None
returns-in-None c = or_else (IsZoneText false (said c.args.text)) (Then 59 (IsZoneText false) (said c.args.text)) c.is_zone.result false
    c.is_zone.ensures c.if-is_zone.false (then_none 59 (IsZoneText false) (said c.args.text) c.in-None.ensures.only)
