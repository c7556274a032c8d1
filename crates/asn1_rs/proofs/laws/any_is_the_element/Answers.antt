use Rattle.asn1_rs.specs.Laws.Any.{der_any, ber_any, raw_tag_told}
use Rattle.asn1_rs.proofs.laws.any_is_the_element.Goals as goal

pub returns : goal.returns
returns c = record {
  der = der_any;
  ber = ber_any;
  der_raw_tag = raw_tag_told _ _ _;
  ber_raw_tag = raw_tag_told _ _ _;
}
