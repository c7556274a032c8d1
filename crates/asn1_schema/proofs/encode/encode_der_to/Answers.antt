use Rattle.std.proofs.Common.{ap}
use Rattle.std.specs.Prelude.{Err}
use Rattle.asn1_schema.proofs.encode.encode_der_to.Goals as goal

pub returns-clause-refused : goal.returns-clause-refused
returns-clause-refused g c = λ is. c.in-Err-Refused.ensures.refused (ap Err c.in-Err-Refused.field-0-is)
