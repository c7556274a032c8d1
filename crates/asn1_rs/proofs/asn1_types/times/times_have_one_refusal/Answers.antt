use Rattle.asn1_rs.specs.Laws.Leaf.{leaf_one_refusal}
use Rattle.asn1_rs.specs.Laws.Times.{utc_time_lawful, generalized_time_lawful}
use Rattle.asn1_rs.proofs.asn1_types.times.times_have_one_refusal.Goals as goal

pub returns : goal.returns
returns c = record {
  utc_time = leaf_one_refusal _ utc_time_lawful;
  generalized_time = leaf_one_refusal _ generalized_time_lawful;
}
