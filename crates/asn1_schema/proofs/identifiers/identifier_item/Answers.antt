use Rattle.std.proofs.Common.{refl}
use Rattle.asn1_schema.specs.Values.{identifier}
use Rattle.asn1_schema.proofs.identifiers.identifier_item.Goals as goal

pub returns : goal.returns
returns c = λ nodes depth of.
    let arcs = c.are_shortest_arcs.ensures.0 c.if-not-are_shortest_arcs.false in
    (identifier c.args.relative c.args.content.now, refl, (refl, c.if-head.false, arcs.0, arcs.1))
