use Rattle.asn1_schema.proofs.Lawful.{front_strict}
use Rattle.asn1_schema.proofs.laws.strict_words_are_determined.Goals as goal

pub returns : goal.returns
returns c = front_strict
