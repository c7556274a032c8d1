use Rattle.x690.specs.Rules.{der_rule}
use Rattle.asn1_headers.specs.Header.Reading.{der_violation}
use Rattle.asn1_rs.proofs.structs.reading.left_out_by_der.Goals as goal

pub returns : goal.returns
returns g c = c.is_left_out.ensures der_rule der_violation c.header_by_der.ensures
