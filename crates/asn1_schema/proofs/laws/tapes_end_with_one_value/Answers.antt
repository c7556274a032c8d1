use Rattle.asn1_schema.proofs.OneTape.{one_tape_back}
use Rattle.asn1_schema.proofs.laws.tapes_end_with_one_value.Goals as goal

pub returns : goal.returns
returns c = one_tape_back
