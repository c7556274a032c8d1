use Rattle.asn1_schema.proofs.WrittenTapes.{ber_back}
use Rattle.asn1_schema.proofs.laws.encodings_are_read_by_ber.Goals as goal

pub returns : goal.returns
returns c = ber_back
