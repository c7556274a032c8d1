use Rattle.asn1_schema.specs.Joined.{said}
use Rattle.asn1_schema.proofs.MomentTexts.{fraction_end, no_fraction_end}
use Rattle.asn1_schema.proofs.moments.is_fraction_end.Goals as goal

pub returns-in-Some : goal.returns-in-Some
returns-in-Some c = fraction_end (said c.args.text) (said c.in-Some.zone) c.is_local.result c.in-Some.ensures.some
    c.in-Some.ensures.only c.is_local.ensures

pub returns-in-None : goal.returns-in-None
returns-in-None c = no_fraction_end (said c.args.text) c.in-None.ensures.only
