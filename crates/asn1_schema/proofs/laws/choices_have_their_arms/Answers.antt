use Rattle.asn1_schema.proofs.Arms.{word_arm}
use Rattle.asn1_schema.proofs.laws.choices_have_their_arms.Goals as goal

pub returns : goal.returns
returns c = word_arm
