use Rattle.asn1_headers.specs.Header.Reading.{der_violation, ber_violation}
use Rattle.asn1_rs.specs.Laws.Header.{one_header_refusal, header_or_refusal}
use Rattle.asn1_rs.specs.Laws.Readers.{der_elements, ber_elements}
use Rattle.asn1_rs.specs.Laws.Any.{one_element_refusal, element_or_refusal, one_content_refusal, content_or_refusal}
use Rattle.asn1_rs.proofs.laws.one_refusal.Goals as goal

pub returns : goal.returns
returns c = record {
  header = one_header_refusal;
  no_header = header_or_refusal;
  element = one_element_refusal _ _ _ der_elements der_violation;
  no_element = element_or_refusal _ _ _ der_elements der_violation;
  ber_element = one_element_refusal _ _ _ ber_elements ber_violation;
  no_ber_element = element_or_refusal _ _ _ ber_elements ber_violation;
  ber_content = one_content_refusal;
  no_ber_content = content_or_refusal;
}
