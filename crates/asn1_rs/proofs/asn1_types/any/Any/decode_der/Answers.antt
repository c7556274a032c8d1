use Rattle.std.proofs.Common.{rules}
use Rattle.x690.specs.Elements.{IsDerElement}
use Rattle.x690.specs.Identifiers.{IsTruncatedIdentifier}
use Rattle.asn1_rs.specs.Laws.Any.Decoded.{word_in_hand}
use Rattle.asn1_rs.proofs.asn1_types.any.Any.decode_der.Goals as goal

pub returns-clause-gives : goal.returns-clause-gives
returns-clause-gives g c = (g.met.T.DecodesBy c.lifetimes (search rules)).decodes c.args.self c.decode_element.result
    c.decode_element.ensures

pub returns-clause-exact : goal.returns-clause-exact
returns-clause-exact g c = let laws = g.met.T.LawfulDer c.lifetimes (search rules) in
    word_in_hand IsDerElement IsTruncatedIdentifier g.T.Grammar.grammar.Der g.T.Grammar.grammar.value
    g.T.Grammar.grammar.allocates g.T.FromDer.der_gives laws.der_exact c.args.self c.decode_element.result
    ((g.met.T.DecodesBy c.lifetimes (search rules)).decodes c.args.self c.decode_element.result
    c.decode_element.ensures)
