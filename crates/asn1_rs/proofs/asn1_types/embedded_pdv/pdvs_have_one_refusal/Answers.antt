use Rattle.asn1_rs.specs.Laws.EmbeddedPdv.{pdv_constraints_have_one_refusal, pdv_one_refusal}
use Rattle.asn1_rs.proofs.asn1_types.embedded_pdv.pdvs_have_one_refusal.Goals as goal

pub returns : goal.returns
returns c = record { value = pdv_one_refusal; constraints = pdv_constraints_have_one_refusal }
