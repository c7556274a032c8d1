use Rattle.asn1_schema.specs.Joined.{said}
use Rattle.asn1_schema.proofs.MomentTexts.{day_rest}
use Rattle.asn1_schema.proofs.moments.behind_hour.Goals as goal

pub returns-in-None-clause-only : goal.returns-in-None-clause-only
returns-in-None-clause-only c = λ rest a. let r = day_rest rest (said c.args.text) a in c.in-None.ensures.only r.0 r.1
