use Rattle.asn1_headers.specs.Header.Reading.{der_violation, ber_violation}
use Rattle.asn1_rs.specs.Laws.Readers.{der_elements, ber_elements}
use Rattle.asn1_rs.specs.Laws.Any.{beginning_refused, within_refused}
use Rattle.asn1_rs.specs.Laws.Header.{header_beginning_refused, header_within_refused}
use Rattle.asn1_rs.proofs.laws.beginnings_are_incomplete.Goals as goal

pub returns : goal.returns
returns c = record {
  header = header_beginning_refused;
  header_within = header_within_refused;
  element = beginning_refused _ _ _ der_elements der_violation;
  element_within = within_refused _ _ _ der_elements der_violation;
  ber_element = beginning_refused _ _ _ ber_elements ber_violation;
  ber_element_within = within_refused _ _ _ ber_elements ber_violation;
}
