use Rattle.asn1_schema.proofs.Lawful.{front_ber}
use Rattle.asn1_schema.proofs.laws.words_by_ber_are_determined.Goals as goal

pub returns : goal.returns
returns c = front_ber
