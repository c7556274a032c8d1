use Rattle.asn1_rs.specs.Laws.Forms.{strict_written, strict_counted, der_strict}
use Rattle.asn1_rs.proofs.laws.functions.counts_are_of_the_strict_encoding.Goals as goal

pub returns : goal.returns
returns g c = record {
  tells = g.met.T.LawfulWrite.lawful_writing.tells_all;
  by_value = g.met.T.LawfulWrite.lawful_writing.by_value;
  strict = der_strict g.T.Grammar.grammar.value g.T.Grammar.grammar.IsDer g.T.Grammar.grammar.Form g.T.ToDer.writing
      g.met.T.LawfulWrite.lawful_writing.form g.met.T.LawfulWrite.lawful_writing.der_form
      g.met.T.LawfulItem.lawful_item.form_fits;
  writable = g.met.T.LawfulWrite.lawful_writing.der_writable;
  written = strict_written g.T.Grammar.grammar.value g.T.Grammar.grammar.Form g.T.ToDer.writing
      g.met.T.LawfulWrite.lawful_writing.form;
  counted = strict_counted g.T.Grammar.grammar.value g.T.Grammar.grammar.Form g.T.ToDer.writing
      g.met.T.LawfulWrite.lawful_writing.form;
}
