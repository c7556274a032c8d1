use Rattle.asn1_schema.proofs.WrittenTapes.{der_back}
use Rattle.asn1_schema.proofs.laws.encodings_are_read_by_der.Goals as goal

pub returns : goal.returns
returns c = der_back
