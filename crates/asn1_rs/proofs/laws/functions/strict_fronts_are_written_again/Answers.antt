use Rattle.asn1_rs.specs.Laws.Forms.{strict_where_written, der_where_written}
use Rattle.asn1_rs.proofs.laws.functions.strict_fronts_are_written_again.Goals as goal

pub returns-clause-again : goal.returns-clause-again
returns-clause-again g c = der_where_written g.T.Grammar.grammar.value g.T.Grammar.grammar.IsDer
    g.T.Grammar.grammar.Form g.T.ToDer.writing g.met.T.LawfulWrite.lawful_writing.form
    g.met.T.LawfulWrite.lawful_writing.der_form g.met.T.LawfulItem.lawful_item.form_fits

pub returns-clause-of_parts : goal.returns-clause-of_parts
returns-clause-of_parts g c = strict_where_written g.T.Grammar.grammar.value g.T.Grammar.grammar.Form g.T.ToDer.writing
    g.met.T.LawfulItem.lawful_item.form_fits g.met.T.LawfulWrite.lawful_writing.form
