use Rattle.asn1_headers.specs.Header.Reading.{ber_violation}
use Rattle.asn1_headers.specs.Answers.{seen}
use Rattle.x690.specs.Rules.{ber_rule}
use Rattle.asn1_rs_uses.proofs.incomplete.read_header.Goals as goal

pub returns : goal.returns
returns c = record {
  truncated = λ more front rest id form h e l.
      c.beginnings_are_refused.ensures.header ber_rule ber_violation c.args.octets.now more front rest id form
      (seen c.from_ber.result) c.from_ber.ensures.gives h e l;
}
