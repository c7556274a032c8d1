use Rattle.x690.specs.Rules.{ber_rule}
use Rattle.asn1_headers.specs.Header.Reading.{ber_violation}
use Rattle.asn1_rs.proofs.structs.reading.left_out_by_ber.Goals as goal

pub returns : goal.returns
returns g c = c.is_left_out.ensures ber_rule ber_violation c.header_by_ber.ensures
