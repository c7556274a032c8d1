use Rattle.std.proofs.Common.{arith, rules}
use Rattle.asn1_headers.specs.Ber.{EndsWithin}
use Rattle.asn1_headers.specs.Answers.{seen}
use Rattle.asn1_rs.specs.Laws.Words.{read_back, ber_one, strict_ber}
use Rattle.asn1_rs.proofs.laws.read_ber.Goals as goal
use Rattle.asn1_rs.specs.Grammar.Item.{ber_words}

pub returns-clause-back : goal.returns-clause-back
returns-clause-back g c = λ v w rest s e.
    read_back EndsWithin g.T.Grammar.grammar.Form (ber_words g.T.Grammar.grammar) g.T.Grammar.grammar.value _
    g.met.T.LawfulItem.lawful_item.one_equality
    (strict_ber g.T.Grammar.grammar g.met.T.LawfulItem.lawful_item)
    (ber_one g.T.Grammar.grammar g.met.T.LawfulItem.lawful_item) c.args.input.now (seen c.from_ber.result)
    ((g.met.T.LawfulBer c.lifetimes (search rules)).ber_exact c.args.input.now (seen c.from_ber.result)
    (λ k. omega (arith, c.type_inv.input k)) c.from_ber.ensures) v w rest s e

pub returns-clause-asks_no_memory : goal.returns-clause-asks_no_memory
returns-clause-asks_no_memory g c = λ none.
    (g.met.T.LawfulBer c.lifetimes (search rules)).ber_no_memory none c.args.input.now
    (seen c.from_ber.result) c.from_ber.ensures
