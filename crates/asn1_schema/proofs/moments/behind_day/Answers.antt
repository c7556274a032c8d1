use Rattle.asn1_schema.specs.Joined.{said}
use Rattle.asn1_schema.specs.Moments.{Then, IsRest}
use Rattle.asn1_schema.proofs.MomentTexts.{then_rest}
use Rattle.asn1_schema.proofs.moments.behind_day.Goals as goal

pub returns-in-None-clause-only : goal.returns-in-None-clause-only
returns-in-None-clause-only c = λ rest a.
    let r = then_rest 12 (Then 31 (IsRest rest)) (said c.args.text) a in c.in-None.ensures.only r.0 r.1
