use Rattle.asn1_headers.specs.Header.Reading.{der_violation, ber_violation}
use Rattle.asn1_rs.specs.Laws.Readers.{der_elements, ber_elements}
use Rattle.asn1_rs.specs.Laws.Beginnings.{beginning_is_refused, header_beginning_is_refused}
use Rattle.asn1_rs.proofs.laws.functions.beginnings_are_refused.Goals as goal

pub returns : goal.returns
returns c = record {
  header = header_beginning_is_refused;
  element = beginning_is_refused _ _ _ der_elements der_violation;
  ber_element = beginning_is_refused _ _ _ ber_elements ber_violation;
}
