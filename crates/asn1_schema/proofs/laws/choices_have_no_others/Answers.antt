use Rattle.asn1_schema.proofs.Arms.{arm_of_word}
use Rattle.asn1_schema.proofs.laws.choices_have_no_others.Goals as goal

pub returns : goal.returns
returns c = arm_of_word
