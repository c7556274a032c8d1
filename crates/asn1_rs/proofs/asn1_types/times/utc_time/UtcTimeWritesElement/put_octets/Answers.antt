use Rattle.std.proofs.Common.{◌∙◌, ap, subst, List, ℕ}
use Rattle.x690.specs.Times.{utc_time_text}
use Rattle.asn1_headers.specs.Writer.{Wrote}
use Rattle.asn1_rs.proofs.asn1_types.times.utc_time.UtcTimeWritesElement.put_octets.Goals as goal

pub returns-in-Some-clause-wrote : goal.returns-in-Some-clause-wrote
returns-in-Some-clause-wrote g c = subst
    (λ (o : List ℕ). Wrote o (g.W.DerWrite.state c.args.w.now) (g.W.DerWrite.state c.put_all.new.w) c.put_all.result)
    (c.in-Some.ensures.text ∙ ap utc_time_text c.moment.ensures) c.put_all.ensures.wrote
