use Rattle.asn1_headers.specs.Answers.{seen}
use Rattle.asn1_rs_uses.proofs.incomplete.read_element.Goals as goal

pub returns : goal.returns
returns c =
    let element = c.any_is_the_element.ensures.der c.args.octets.now (seen c.from_der.result) c.from_der.ensures in
    record {
      truncated = λ more word rest p a e l. c.beginnings_are_refused.ensures.element c.args.octets.now more word rest p
          (seen c.from_der.result) element a e l;
      raw_tag = λ identifier more id i e. c.any_is_the_element.ensures.der_raw_tag c.args.octets.now identifier more id
          (seen c.from_der.result) i e element;
    }
