use Rattle.std.proofs.Common.{◌≡◌, List, ℕ}
use Rattle.asn1_rs.specs.Grammar.Form.{IsStrict}
use Rattle.asn1_rs.specs.Laws.Words.{one_strict, strict_apart}
use Rattle.asn1_rs.specs.Laws.Forms.{strict_written, der_strict}
use Rattle.asn1_rs.specs.ToDer.{IsWritable, whole_octets}
use Rattle.asn1_rs.proofs.Writing.{writing_done, plain_refusal}
use Rattle.asn1_rs.proofs.laws.write_strict.Goals as goal
use Rattle.asn1_rs.proofs.laws.write_strict.Given as given

-- what is written is the strict encoding, and the value is writable
written : (g : given.Over) (c : goal.After-write_der g) (o : List ℕ) →
    IsStrict g.T.Grammar.grammar.Form (g.T.Grammar.grammar.value c.args.x.now) o →
    IsWritable g.T.ToDer.writing c.args.x.now × (whole_octets g.T.ToDer.writing c.args.x.now ≡ o)
written g c o s = strict_written g.T.Grammar.grammar.value g.T.Grammar.grammar.Form g.T.ToDer.writing
    g.met.T.LawfulWrite.lawful_writing.form c.args.x.now o s

pub returns-clause-wrote : goal.returns-clause-wrote
returns-clause-wrote g c = λ o s.
    rw (← (written g c o s).1) (c.write_der.ensures.wrote (g.met.T.LawfulWrite.lawful_writing.tells_all c.args.x.now))

pub returns-clause-refused : goal.returns-clause-refused
returns-clause-refused g c = λ o s.
    let h = written g c o s in
    rw (← h.1) (plain_refusal c.write_der.result _ _ (g.T.ToDer.writing.header_refuses c.args.x.now)
    (g.T.ToDer.writing.content_refuses c.args.x.now) h.0.1 h.0.2
    (c.write_der.ensures.refused (g.met.T.LawfulWrite.lawful_writing.tells_all c.args.x.now)))

pub returns-clause-one : goal.returns-clause-one
returns-clause-one g c = λ o p s t. one_strict g.T.Grammar.grammar.Form g.met.T.LawfulItem.lawful_item.one_form
    (g.T.Grammar.grammar.value c.args.x.now) o p s t

pub returns-clause-apart : goal.returns-clause-apart
returns-clause-apart g c = λ o p r s v w x y e.
    strict_apart g.T.Grammar.grammar.Form g.met.T.LawfulItem.lawful_item.one_value v w o p r s x y e

pub returns-clause-der : goal.returns-clause-der
returns-clause-der g c = λ d.
    let x = c.args.x.now in
    let own = g.met.T.LawfulWrite.lawful_writing.der_writable x d in
    plain_refusal c.write_der.result _ _ (g.T.ToDer.writing.header_refuses x) (g.T.ToDer.writing.content_refuses x)
    own.1 own.2 (c.write_der.ensures.refused (g.met.T.LawfulWrite.lawful_writing.tells_all x))

pub returns-clause-headline : goal.returns-clause-headline
returns-clause-headline g c = λ d fits unmarked.
    let x = c.args.x.now in
    let strict = der_strict g.T.Grammar.grammar.value g.T.Grammar.grammar.IsDer g.T.Grammar.grammar.Form
    g.T.ToDer.writing g.met.T.LawfulWrite.lawful_writing.form g.met.T.LawfulWrite.lawful_writing.der_form
    g.met.T.LawfulItem.lawful_item.form_fits x d fits in (
      strict,
      writing_done _ _ _ _ _ (c.write_der.ensures.wrote (g.met.T.LawfulWrite.lawful_writing.tells_all x))
          (returns-clause-der g c d) fits unmarked,
    )
