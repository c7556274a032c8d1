use Rattle.asn1_rs.proofs.Prepending.{vector_of_own}
use Rattle.asn1_rs.proofs.structs.writing.AnyToDerByFieldsKind.prepend_content.Goals as goal

pub returns-clause-refused : goal.returns-clause-refused
returns-clause-refused g c = λ t. vector_of_own c.prepend_fields.result _ _ (c.prepend_fields.ensures.refused t)

pub returns-clause-accepted : goal.returns-clause-accepted
returns-clause-accepted g c = λ e t o. c.prepend_fields.ensures.accepted o.0 t o.1
