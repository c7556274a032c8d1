use Rattle.asn1_rs.specs.Laws.Leaf.{leaf_one_refusal}
use Rattle.asn1_rs.specs.Laws.Texts.{lent_text_lawful, owned_text_lawful}
use Rattle.asn1_rs.proofs.asn1_types.texts.texts_have_one_refusal.Goals as goal

pub returns : goal.returns
returns c = record {
  lent = leaf_one_refusal _ lent_text_lawful;
  owned = leaf_one_refusal _ owned_text_lawful;
}
