use Rattle.asn1_schema.proofs.OneWord.{one_word}
use Rattle.asn1_schema.proofs.laws.values_have_one_strict_word.Goals as goal

pub returns : goal.returns
returns c = one_word
