use Rattle.std.proofs.Common.{arith, rules}
use Rattle.x690.specs.Identifiers.{IsTruncatedIdentifier}
use Rattle.asn1_headers.specs.Answers.{seen}
use Rattle.asn1_rs.specs.Laws.Words.{read_back}
use Rattle.asn1_rs.proofs.laws.read_der.Goals as goal

pub returns-clause-back : goal.returns-clause-back
returns-clause-back g c = λ v w rest s e.
    read_back IsTruncatedIdentifier g.T.Grammar.grammar.Form g.T.Grammar.grammar.Der g.T.Grammar.grammar.value _
    g.met.T.LawfulItem.lawful_item.one_equality
    g.met.T.LawfulItem.lawful_item.strict_der g.met.T.LawfulItem.lawful_item.der_one c.args.bytes.now
    (seen c.from_der.result)
    ((g.met.T.LawfulDer c.lifetimes (search rules)).der_exact c.args.bytes.now (seen c.from_der.result)
    (λ k. omega (arith, c.type_inv.bytes k)) c.from_der.ensures) v w rest s e

pub returns-clause-asks_no_memory : goal.returns-clause-asks_no_memory
returns-clause-asks_no_memory g c = λ none.
    (g.met.T.LawfulDer c.lifetimes (search rules)).der_no_memory none c.args.bytes.now
    (seen c.from_der.result) c.from_der.ensures
