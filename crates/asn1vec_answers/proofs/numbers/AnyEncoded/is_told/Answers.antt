use Rattle.std.proofs.Common.{Some, Ok, Err, refl}
use Rattle.asn1_rs.specs.Laws.Forms.{strict_written, whole_writable}
use Rattle.asn1_rs.specs.ToDer.{whole_allocates, whole_octets}
use Rattle.asn1vec_answers.proofs.ShownLaws.{strict_told}
use Rattle.asn1vec_answers.proofs.numbers.AnyEncoded.is_told.Goals as goal

pub returns-clause-written : goal.returns-clause-written
returns-clause-written g c = λ none few.
    let strict = c.is_encoded.ensures in
    strict_told g.T.Grammar.grammar.value g.T.Grammar.grammar.Form g.T.ToDer.writing
    g.met.T.LawfulWrite.lawful_writing.form
    (whole_allocates g.T.ToDer.writing) c.args.self.now strict.0 strict.1
    (Some (Ok (whole_octets g.T.ToDer.writing c.args.self.now))) (few, refl)

pub returns-clause-refused : goal.returns-clause-refused
returns-clause-refused g c = λ e may io.
    let strict = c.is_encoded.ensures in
    strict_told g.T.Grammar.grammar.value g.T.Grammar.grammar.Form g.T.ToDer.writing
    g.met.T.LawfulWrite.lawful_writing.form
    (whole_allocates g.T.ToDer.writing) c.args.self.now strict.0 strict.1 (Some (Err e)) (may, io)

pub returns-clause-own : goal.returns-clause-own
returns-clause-own g c = λ e has io.
    let x = c.args.self.now in
    let strict = c.is_encoded.ensures in
    absurd (whole_writable g.T.ToDer.writing x
    (strict_written g.T.Grammar.grammar.value g.T.Grammar.grammar.Form g.T.ToDer.writing
    g.met.T.LawfulWrite.lawful_writing.form x strict.0 strict.1).0 e has)
