use Rattle.asn1_schema.proofs.StrictIsBer.{der_is_ber}
use Rattle.asn1_schema.proofs.laws.words_by_der_are_words_by_ber.Goals as goal

pub returns : goal.returns
returns c = der_is_ber
