use Rattle.asn1_rs.specs.Tagged.{ThenByDer}
use Rattle.asn1_rs.specs.Tagged.Parser.{TakesImplicit, ChecksAndConverts, TagCheckGives}
use Rattle.asn1_rs.proofs.TaggedReaders.{expects}
use Rattle.asn1_rs.proofs.asn1_types.tagged.builder.parse_der_tagged_implicit.Goals as goal

pub returns-in-Ok : goal.returns-in-Ok
returns-in-Ok g c = (
  c.into-tag.result,
  c.into-tag.ensures,
  expects (ThenByDer g.E.From.from_gives (TakesImplicit g.T.Tagged.TAG
      (ChecksAndConverts g.T.CheckDerConstraints.check_gives g.T.FromAny.any_gives g.E.From.from_gives)))
      (TagCheckGives c.into-tag.result) g.E.From.from_gives c.args.bytes.now c.in-Ok.rest.now c.in-Ok.parser _
      c.in-Ok.ensures c.with_number.ensures,
)
