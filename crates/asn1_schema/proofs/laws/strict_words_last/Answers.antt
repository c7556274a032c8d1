use Rattle.asn1_schema.proofs.StrictIsBer.{strict_deeper}
use Rattle.asn1_schema.proofs.laws.strict_words_last.Goals as goal

pub returns : goal.returns
returns c = strict_deeper
