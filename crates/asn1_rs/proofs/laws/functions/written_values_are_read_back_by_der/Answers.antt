use Rattle.std.proofs.Common.{rules}
use Rattle.x690.specs.Identifiers.{IsTruncatedIdentifier}
use Rattle.asn1_rs.specs.Laws.Words.{read_back}
use Rattle.asn1_rs.specs.Laws.Forms.{der_strict}
use Rattle.asn1_rs.specs.ToDer.{whole_octets}
use Rattle.asn1_rs.proofs.laws.functions.written_values_are_read_back_by_der.Goals as goal

pub returns : goal.returns
returns g c = λ x input rest answer octets d fits e gives.
    read_back IsTruncatedIdentifier g.T.Grammar.grammar.Form g.T.Grammar.grammar.Der g.T.Grammar.grammar.value _
    g.met.T.LawfulItem.lawful_item.one_equality g.met.T.LawfulItem.lawful_item.strict_der
    g.met.T.LawfulItem.lawful_item.der_one input answer
    ((g.met.T.LawfulDer c.lifetimes (search rules)).der_exact input answer octets gives)
    (g.T.Grammar.grammar.value x) (whole_octets g.T.ToDer.writing x) rest
    (der_strict g.T.Grammar.grammar.value g.T.Grammar.grammar.IsDer g.T.Grammar.grammar.Form g.T.ToDer.writing
    g.met.T.LawfulWrite.lawful_writing.form g.met.T.LawfulWrite.lawful_writing.der_form
    g.met.T.LawfulItem.lawful_item.form_fits x d fits) e
