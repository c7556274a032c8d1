use Rattle.std.proofs.Common.{rules}
use Rattle.asn1_headers.specs.Ber.{EndsWithin}
use Rattle.asn1_rs.specs.Laws.Words.{read_back, ber_one, strict_ber}
use Rattle.asn1_rs.specs.Laws.Beginnings.{word_beginning_is_refused}
use Rattle.asn1_rs.proofs.laws.functions.reader_is_exact_by_ber.Goals as goal
use Rattle.asn1_rs.specs.Grammar.Item.{ber_words}

pub returns-clause-exact : goal.returns-clause-exact
returns-clause-exact g c = (g.met.T.LawfulBer c.lifetimes (search rules)).ber_exact

pub returns-clause-back : goal.returns-clause-back
returns-clause-back g c = λ input answer v w rest o gives s e.
    read_back EndsWithin g.T.Grammar.grammar.Form (ber_words g.T.Grammar.grammar) g.T.Grammar.grammar.value _
    g.met.T.LawfulItem.lawful_item.one_equality
    (strict_ber g.T.Grammar.grammar g.met.T.LawfulItem.lawful_item)
    (ber_one g.T.Grammar.grammar g.met.T.LawfulItem.lawful_item) input answer
    ((g.met.T.LawfulBer c.lifetimes (search rules)).ber_exact input answer o gives) v w rest s e

pub returns-clause-beginning : goal.returns-clause-beginning
returns-clause-beginning g c = λ input answer more word rest v o gives d e l.
    word_beginning_is_refused EndsWithin (ber_words g.T.Grammar.grammar) g.T.Grammar.grammar.value _
    (ber_one g.T.Grammar.grammar g.met.T.LawfulItem.lawful_item) input answer
    ((g.met.T.LawfulBer c.lifetimes (search rules)).ber_exact input answer o gives) more word rest v d e l

pub returns-clause-asks_no_memory : goal.returns-clause-asks_no_memory
returns-clause-asks_no_memory g c =
    λ input answer none gives. (g.met.T.LawfulBer c.lifetimes (search rules)).ber_no_memory none input answer gives
