use Rattle.std.proofs.Common.{Some, Ok, Err, refl}
use Rattle.asn1_rs.specs.Laws.Forms.{whole_writable}
use Rattle.asn1_rs.specs.ToDer.{whole_allocates, whole_octets}
use Rattle.asn1vec_answers.proofs.ShownLaws.{strict_if_any}
use Rattle.asn1vec_answers.proofs.lists.writing_is_strict.Goals as goal

pub returns-clause-written : goal.returns-clause-written
returns-clause-written g c = λ none few.
    strict_if_any g.T.Grammar.grammar.value g.T.Grammar.grammar.IsDer g.T.Grammar.grammar.Form g.T.ToDer.writing
    g.met.T.LawfulWrite.lawful_writing.form g.met.T.LawfulWrite.lawful_writing.der_form
    g.met.T.LawfulItem.lawful_item.form_fits (whole_allocates g.T.ToDer.writing) c.args.x.now c.requires
    (Some (Ok (whole_octets g.T.ToDer.writing c.args.x.now))) (few, refl)

pub returns-clause-refused : goal.returns-clause-refused
returns-clause-refused g c = λ e may io.
    strict_if_any g.T.Grammar.grammar.value g.T.Grammar.grammar.IsDer g.T.Grammar.grammar.Form g.T.ToDer.writing
    g.met.T.LawfulWrite.lawful_writing.form g.met.T.LawfulWrite.lawful_writing.der_form
    g.met.T.LawfulItem.lawful_item.form_fits (whole_allocates g.T.ToDer.writing) c.args.x.now c.requires
    (Some (Err e)) (may, io)

pub returns-clause-own : goal.returns-clause-own
returns-clause-own g c = λ e has io. absurd (whole_writable g.T.ToDer.writing c.args.x.now
    (g.met.T.LawfulWrite.lawful_writing.der_writable c.args.x.now c.requires) e has)
