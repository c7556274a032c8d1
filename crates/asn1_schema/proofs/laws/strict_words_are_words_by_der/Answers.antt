use Rattle.asn1_schema.proofs.StrictIsBer.{strict_is_der}
use Rattle.asn1_schema.proofs.laws.strict_words_are_words_by_der.Goals as goal

pub returns : goal.returns
returns c = strict_is_der
