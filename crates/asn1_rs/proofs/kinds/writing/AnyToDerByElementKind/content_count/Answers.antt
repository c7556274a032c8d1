use Rattle.std.proofs.Common.{length}
use Rattle.asn1_rs.proofs.Refused.{count_refuses, count_accepted}
use Rattle.asn1_rs.proofs.kinds.writing.AnyToDerByElementKind.content_count.Goals as goal

pub returns-clause-refused : goal.returns-clause-refused
returns-clause-refused g c =
    λ _. count_refuses (g.T.WritesElement.refusal c.args.self.now) (g.T.WritesElement.is_refused c.args.self.now)
    (length (g.T.WritesElement.octets c.args.self.now)) c.count_octets.result c.count_octets.ensures.refused

pub returns-clause-accepted : goal.returns-clause-accepted
returns-clause-accepted g c =
    λ e _ o. count_accepted (g.T.WritesElement.refusal c.args.self.now) (g.T.WritesElement.is_refused c.args.self.now)
    (length (g.T.WritesElement.octets c.args.self.now)) c.count_octets.result c.count_octets.ensures.refused e o
