use Rattle.asn1_rs.proofs.Prepending.{prepend_refuses, prepend_accepted, prepend_uncounted, prepend_first}
use Rattle.asn1_rs.proofs.kinds.writing.AnyToDerByElementKind.prepend_content.Goals as goal

pub returns-clause-refused : goal.returns-clause-refused
returns-clause-refused g c = λ _. prepend_refuses (g.T.WritesElement.refusal c.args.self.now)
    (g.T.WritesElement.is_refused c.args.self.now) _ _ _ c.prepend_contents.result c.prepend_contents.ensures.refused

pub returns-clause-accepted : goal.returns-clause-accepted
returns-clause-accepted g c = λ e _ o. prepend_accepted (g.T.WritesElement.refusal c.args.self.now)
    (g.T.WritesElement.is_refused c.args.self.now) _ _ _ c.prepend_contents.result c.prepend_contents.ensures.refused e
    o

pub returns-clause-uncounted : goal.returns-clause-uncounted
returns-clause-uncounted g c = λ e _ o. prepend_uncounted (g.T.WritesElement.refusal c.args.self.now)
    (g.T.WritesElement.is_refused c.args.self.now) _ _ _ c.prepend_contents.result c.prepend_contents.ensures.refused e
    o

pub returns-clause-first : goal.returns-clause-first
returns-clause-first g c = λ e o. prepend_first (g.T.WritesElement.refusal c.args.self.now)
    (g.T.WritesElement.is_refused c.args.self.now) _ _ _ c.prepend_contents.result c.prepend_contents.ensures.refused e
    o
