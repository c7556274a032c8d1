use Rattle.asn1_headers.specs.Header.Reading.{der_violation, ber_violation}
use Rattle.asn1_rs.specs.Laws.Readers.{der_elements, ber_elements}
use Rattle.asn1_rs.specs.Laws.Any.{refusal_lasts, element_lasts, content_lasts}
use Rattle.asn1_rs.specs.Laws.Header.{header_lasts}
use Rattle.asn1_rs.proofs.laws.answers_last.Goals as goal

pub returns : goal.returns
returns c = record {
  header = header_lasts;
  refusal = refusal_lasts _ _ _ der_elements der_violation;
  element = element_lasts _ _ _ der_elements der_violation;
  ber_refusal = refusal_lasts _ _ _ ber_elements ber_violation;
  ber_element = element_lasts _ _ _ ber_elements ber_violation;
  ber_content = content_lasts;
}
