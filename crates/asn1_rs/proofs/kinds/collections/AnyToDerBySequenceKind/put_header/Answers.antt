use Rattle.asn1_rs.specs.Lists.{SomeRefuses}
use Rattle.asn1_rs.proofs.Writing.{counted_refused, counted_at_once}
use Rattle.asn1_rs.proofs.kinds.collections.AnyToDerBySequenceKind.put_header.Goals as goal

pub returns-clause-wrote : goal.returns-clause-wrote
returns-clause-wrote g c =
    λ t. rw (← c.TAG.ensures) (c.put_counted_header.ensures.wrote _ (c.content_count.ensures.count t))

pub returns-clause-refused : goal.returns-clause-refused
returns-clause-refused g c = λ t.
    rw (← c.TAG.ensures) (counted_refused g.T.ToDer.writing.count_allocates _ _
    (SomeRefuses g.T.ToDer.writing.count_refuses (g.L.Listed.items c.args.self.now)) c.content_count.result
    c.put_counted_header.result _ _ (c.content_count.ensures.refused t)
    (c.put_counted_header.ensures.why g.T.ToDer.writing.count_allocates _ _) c.put_counted_header.ensures.refused)

pub returns-clause-at_once : goal.returns-clause-at_once
returns-clause-at_once g c = λ e t o.
    rw (← c.TAG.ensures) (counted_at_once g.T.ToDer.writing.count_allocates _ _
    (SomeRefuses g.T.ToDer.writing.count_refuses (g.L.Listed.items c.args.self.now)) c.content_count.result
    c.put_counted_header.result _ _ (c.content_count.ensures.refused t)
    (λ e. c.content_count.ensures.accepted e t) c.put_counted_header.ensures.refused e o)
