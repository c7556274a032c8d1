use Rattle.std.proofs.Common.{rules}
use Rattle.asn1_headers.specs.Ber.{EndsWithin}
use Rattle.asn1_rs.specs.Grammar.Item.{ber_words}
use Rattle.asn1_rs.specs.Laws.Words.{read_back, ber_one, strict_ber}
use Rattle.asn1_rs.specs.Laws.Forms.{der_strict}
use Rattle.asn1_rs.specs.ToDer.{whole_octets}
use Rattle.asn1_rs.proofs.laws.functions.written_values_are_read_back_by_ber.Goals as goal

pub returns : goal.returns
returns g c = λ x input rest answer octets d fits e gives.
    read_back EndsWithin g.T.Grammar.grammar.Form (ber_words g.T.Grammar.grammar) g.T.Grammar.grammar.value _
    g.met.T.LawfulItem.lawful_item.one_equality (strict_ber g.T.Grammar.grammar g.met.T.LawfulItem.lawful_item)
    (ber_one g.T.Grammar.grammar g.met.T.LawfulItem.lawful_item) input answer
    ((g.met.T.LawfulBer c.lifetimes (search rules)).ber_exact input answer octets gives)
    (g.T.Grammar.grammar.value x) (whole_octets g.T.ToDer.writing x) rest
    (der_strict g.T.Grammar.grammar.value g.T.Grammar.grammar.IsDer g.T.Grammar.grammar.Form g.T.ToDer.writing
    g.met.T.LawfulWrite.lawful_writing.form g.met.T.LawfulWrite.lawful_writing.der_form
    g.met.T.LawfulItem.lawful_item.form_fits x d fits) e
