use Rattle.std.proofs.Common.{arith, rules}
use Rattle.x690.specs.Identifiers.{IsTruncatedIdentifier}
use Rattle.asn1_rs.specs.Laws.Whole.{whole_exact}
use Rattle.asn1_rs.proofs.whole.read_der_whole.Goals as goal

pub returns-clause-exact : goal.returns-clause-exact
returns-clause-exact g c =
    whole_exact IsTruncatedIdentifier g.T.Grammar.grammar.Der g.T.Grammar.grammar.value g.T.Grammar.grammar.allocates
    g.met.T.LawfulItem.lawful_item.der_one g.T.FromDer.der_gives c.args.bytes.now
    (λ answer given. (g.met.T.LawfulDer c.lifetimes (search rules)).der_exact c.args.bytes.now answer
    (λ k. omega (arith, c.type_inv.bytes k)) given) c.from_der_whole.result c.from_der_whole.ensures
