use Rattle.asn1_rs.proofs.Refused.{whole_put_refuses, put_accepted, put_uncounted, whole_put_at_once, put_first}
use Rattle.asn1_rs.proofs.kinds.writing.AnyToDerByElementKind.put_whole.Goals as goal

pub returns-clause-refused : goal.returns-clause-refused
returns-clause-refused g c = λ _. whole_put_refuses (g.T.WritesElement.refusal c.args.self.now)
    (g.T.WritesElement.is_refused c.args.self.now) _ _ _ c.put_element.result c.put_element.ensures.refused

pub returns-clause-accepted : goal.returns-clause-accepted
returns-clause-accepted g c = λ e _ o. put_accepted (g.T.WritesElement.refusal c.args.self.now)
    (g.T.WritesElement.is_refused c.args.self.now) _ _ _ c.put_element.result c.put_element.ensures.refused e o

pub returns-clause-uncounted : goal.returns-clause-uncounted
returns-clause-uncounted g c = λ e _ o. put_uncounted (g.T.WritesElement.refusal c.args.self.now)
    (g.T.WritesElement.is_refused c.args.self.now) _ _ _ c.put_element.result c.put_element.ensures.refused e o

pub returns-clause-at_once : goal.returns-clause-at_once
returns-clause-at_once g c = λ e _ o. whole_put_at_once (g.T.WritesElement.refusal c.args.self.now)
    (g.T.WritesElement.is_refused c.args.self.now) _ _ _ c.put_element.result c.put_element.ensures.refused e o

pub returns-clause-first : goal.returns-clause-first
returns-clause-first g c = λ e o. put_first (g.T.WritesElement.refusal c.args.self.now)
    (g.T.WritesElement.is_refused c.args.self.now) _ _ _ c.put_element.result c.put_element.ensures.refused e o
