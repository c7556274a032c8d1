use Rattle.x690.specs.Laws.Ascending.Arranged.{arranged_length}
use Rattle.asn1_rs.proofs.kinds.collections.AnyToDerBySetKind.content_count.Goals as goal
use Rattle.asn1_rs.specs.ToDer.{whole_octets}

pub returns-clause-count : goal.returns-clause-count
returns-clause-count g c = λ t. rw (arranged_length (whole_octets g.T.ToDer.writing) (g.L.Listed.items c.args.self.now))
    (c.count_each.ensures.count t)

pub returns-clause-refused : goal.returns-clause-refused
returns-clause-refused g c =
    λ t. rw (arranged_length (whole_octets g.T.ToDer.writing) (g.L.Listed.items c.args.self.now))
    (c.count_each.ensures.refused t)

pub returns-clause-accepted : goal.returns-clause-accepted
returns-clause-accepted g c = c.count_each.ensures.accepted
