use Rattle.std.proofs.Common.{arith, rules}
use Rattle.asn1_headers.specs.Ber.{EndsWithin}
use Rattle.asn1_rs.specs.Grammar.Item.{ber_words}
use Rattle.asn1_rs.specs.Laws.Words.{ber_one}
use Rattle.asn1_rs.specs.Laws.Whole.{whole_exact}
use Rattle.asn1_rs.proofs.whole.read_ber_whole.Goals as goal

pub returns-clause-exact : goal.returns-clause-exact
returns-clause-exact g c =
    whole_exact EndsWithin (ber_words g.T.Grammar.grammar) g.T.Grammar.grammar.value g.T.Grammar.grammar.allocates
    (ber_one g.T.Grammar.grammar g.met.T.LawfulItem.lawful_item) g.T.FromBer.ber_gives c.args.bytes.now
    (λ answer given. (g.met.T.LawfulBer c.lifetimes (search rules)).ber_exact c.args.bytes.now answer
    (λ k. omega (arith, c.type_inv.bytes k)) given) c.from_ber_whole.result c.from_ber_whole.ensures
