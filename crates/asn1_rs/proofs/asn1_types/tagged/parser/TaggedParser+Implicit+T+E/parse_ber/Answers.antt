use Rattle.asn1_rs.specs.Tagged.{ThenByBer}
use Rattle.asn1_rs.specs.Tagged.Parser.{TakesImplicit, HasTag}
use Rattle.asn1_rs.proofs.TaggedReaders.{expects}
use Rattle.asn1_rs.proofs.asn1_types.tagged.parser.TaggedParser+Implicit+T+E.parse_ber.Goals as goal

pub returns-in-Ok : goal.returns-in-Ok
returns-in-Ok g c = expects (ThenByBer g.E.From.from_gives (TakesImplicit g.T.Tagged.TAG g.T.FromAny.any_gives))
    (HasTag c.args.class c.args.tag) g.E.From.from_gives c.args.bytes.now c.in-Ok.rest.now c.in-Ok.parser _
    c.in-Ok.ensures c.with_tag.ensures
