use Rattle.asn1_rs.proofs.Writing.{vector_refuses, neither_refuses}
use Rattle.asn1_rs.proofs.to_der.ToDer.to_der_vec.Goals as goal
use Rattle.asn1_rs.specs.ToDer.{whole_refuses}

pub returns-in-Err-clause-refused : goal.returns-in-Err-clause-refused
returns-in-Err-clause-refused g c =
    λ t. vector_refuses c.in-Err.e c.without_io.result _ _ (whole_refuses g.Self.ToDer.writing c.args.self.now)
    c.without_io.ensures.refused c.without_io.ensures.same (c.in-Err.ensures.refused t)

pub returns-in-Ok-clause-accepted : goal.returns-in-Ok-clause-accepted
returns-in-Ok-clause-accepted g c = λ e t o. absurd (neither_refuses _ _
    (g.Self.ToDer.writing.header_refuses c.args.self.now) (g.Self.ToDer.writing.content_refuses c.args.self.now) _ _ _
    (λ e. c.in-Ok.ensures.at_once e t) (λ e. c.in-Ok.ensures.accepted e t) e o)
