use Rattle.std.proofs.Common.{false}
use Rattle.asn1_rs.specs.ToDer.{Either}
use Rattle.asn1_rs.proofs.Writing.{vector_refuses}
use Rattle.asn1_rs.proofs.header.HeaderToDer.to_der_vec_raw.Goals as goal

pub returns-in-Err-clause-failed : goal.returns-in-Err-clause-failed
returns-in-Err-clause-failed c = λ most. c.without_io.ensures.refused most false (c.in-Err.ensures.failed false most)

pub returns-in-Err-clause-refused : goal.returns-in-Err-clause-refused
returns-in-Err-clause-refused c = λ none. vector_refuses c.in-Err.e c.without_io.result _ _
    (Either (λ _. ⊥) (λ _. ⊥)) c.without_io.ensures.refused c.without_io.ensures.same (c.in-Err.ensures.refused none)
