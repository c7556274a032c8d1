use Rattle.asn1_schema.proofs.StrictIsBer.{ber_deeper}
use Rattle.asn1_schema.proofs.laws.words_by_ber_last.Goals as goal

pub returns : goal.returns
returns c = ber_deeper
