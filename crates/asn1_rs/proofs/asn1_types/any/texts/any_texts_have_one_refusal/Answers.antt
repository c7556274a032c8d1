use Rattle.asn1_rs.specs.Laws.Any.Text.{any_text_none, any_text_one, lent_any_text_one_refusal}
use Rattle.asn1_rs.proofs.asn1_types.any.texts.any_texts_have_one_refusal.Goals as goal

pub returns : goal.returns
returns c = record { lent = lent_any_text_one_refusal; one = any_text_one; none = any_text_none }
