use Rattle.asn1_schema.proofs.Lawful.{front_der}
use Rattle.asn1_schema.proofs.laws.words_by_der_are_determined.Goals as goal

pub returns : goal.returns
returns c = front_der
