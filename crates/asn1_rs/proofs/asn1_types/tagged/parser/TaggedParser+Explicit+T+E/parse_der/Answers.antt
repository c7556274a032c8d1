use Rattle.asn1_rs.specs.Tagged.{ThenByDer}
use Rattle.asn1_rs.specs.Tagged.Parser.{TakesWholeContent, HasTag}
use Rattle.asn1_rs.proofs.TaggedReaders.{expects}
use Rattle.asn1_rs.proofs.asn1_types.tagged.parser.TaggedParser+Explicit+T+E.parse_der.Goals as goal

pub returns-in-Ok : goal.returns-in-Ok
returns-in-Ok g c =
    expects (ThenByDer g.E.From.from_gives (TakesWholeContent g.T.FromDer.der_gives g.E.From.from_gives))
    (HasTag c.args.class c.args.tag) g.E.From.from_gives c.args.bytes.now c.in-Ok.rest.now c.in-Ok.parser _
    c.in-Ok.ensures c.with_tag.ensures
