use Rattle.std.proofs.Common.{rules}
use Rattle.x690.specs.Identifiers.{IsTruncatedIdentifier}
use Rattle.asn1_rs.specs.Laws.Words.{read_back}
use Rattle.asn1_rs.specs.Laws.Beginnings.{word_beginning_is_refused}
use Rattle.asn1_rs.proofs.laws.functions.reader_is_exact_by_der.Goals as goal

pub returns-clause-exact : goal.returns-clause-exact
returns-clause-exact g c = (g.met.T.LawfulDer c.lifetimes (search rules)).der_exact

pub returns-clause-back : goal.returns-clause-back
returns-clause-back g c = λ input answer v w rest o gives s e.
    read_back IsTruncatedIdentifier g.T.Grammar.grammar.Form g.T.Grammar.grammar.Der g.T.Grammar.grammar.value _
    g.met.T.LawfulItem.lawful_item.one_equality
    g.met.T.LawfulItem.lawful_item.strict_der g.met.T.LawfulItem.lawful_item.der_one input answer
    ((g.met.T.LawfulDer c.lifetimes (search rules)).der_exact input answer o gives) v w rest s e

pub returns-clause-beginning : goal.returns-clause-beginning
returns-clause-beginning g c = λ input answer more word rest v o gives d e l.
    word_beginning_is_refused IsTruncatedIdentifier g.T.Grammar.grammar.Der g.T.Grammar.grammar.value _
    g.met.T.LawfulItem.lawful_item.der_one input answer
    ((g.met.T.LawfulDer c.lifetimes (search rules)).der_exact input answer o gives) more word rest v d e l

pub returns-clause-asks_no_memory : goal.returns-clause-asks_no_memory
returns-clause-asks_no_memory g c =
    λ input answer none gives. (g.met.T.LawfulDer c.lifetimes (search rules)).der_no_memory none input answer gives
