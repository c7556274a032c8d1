use Rattle.asn1_rs.proofs.Writing.{vector_refuses, neither_refuses, at_once_into}
use Rattle.asn1_rs.proofs.asn1_types.kept.joined.with_encoding.Goals as goal
use Rattle.asn1_rs.specs.ToDer.{whole_refuses}

pub returns-in-Err-clause-refused : goal.returns-in-Err-clause-refused
returns-in-Err-clause-refused g c =
    λ t. vector_refuses c.in-Err.e c.without_io.result _ _ (whole_refuses g.T.ToDer.writing c.args.item.now)
    c.without_io.ensures.refused c.without_io.ensures.same (c.in-Err.ensures.refused t)

pub returns-in-Ok-clause-accepted : goal.returns-in-Ok-clause-accepted
returns-in-Ok-clause-accepted g c = λ e t o.
    absurd (neither_refuses _ _ (g.T.ToDer.writing.header_refuses c.args.item.now) (g.T.ToDer.writing.content_refuses
    c.args.item.now) _ _ _ (λ e. c.in-Ok.ensures.at_once e t) (λ e. c.in-Ok.ensures.accepted e t) e o)

pub returns-in-Err-clause-at_once : goal.returns-in-Err-clause-at_once
returns-in-Err-clause-at_once g c = λ e t o.
    at_once_into _ _ _ _ _ c.in-Err.e c.without_io.result c.without_io.ensures.same (c.in-Err.ensures.at_once e t o)
