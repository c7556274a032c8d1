use Rattle.std.proofs.Common.{◌≡◌, refl, List, ℕ}
use Rattle.asn1_rs.specs.Grammar.Form.{IsStrict}
use Rattle.asn1_rs.specs.Laws.Words.{one_strict, strict_apart}
use Rattle.asn1_rs.specs.Laws.Forms.{strict_written, der_strict}
use Rattle.asn1_rs.specs.ToDer.{IsWritable, whole_octets}
use Rattle.asn1_rs.proofs.Writing.{vector_done, vector_fits, plain_vector}
use Rattle.asn1_rs.proofs.laws.strict_vec.Goals as goal
use Rattle.asn1_rs.proofs.laws.strict_vec.Given as given

-- what is written is the strict encoding, and the value is writable
written : (g : given.Over) (c : goal.After-to_der_vec g) (o : List ℕ) →
    IsStrict g.T.Grammar.grammar.Form (g.T.Grammar.grammar.value c.args.x.now) o →
    IsWritable g.T.ToDer.writing c.args.x.now × (whole_octets g.T.ToDer.writing c.args.x.now ≡ o)
written g c o s = strict_written g.T.Grammar.grammar.value g.T.Grammar.grammar.Form g.T.ToDer.writing
    g.met.T.LawfulWrite.lawful_writing.form c.args.x.now o s

pub returns-clause-strict : goal.returns-clause-strict
returns-clause-strict g c = λ o s.
    let x = c.args.x.now in
    let told = g.met.T.LawfulWrite.lawful_writing.tells_all x in
    let h = written g c o s in
    vector_done (whole_octets g.T.ToDer.writing x) o h.1 c.to_der_vec.result (c.to_der_vec.ensures.wrote told)
    (plain_vector c.to_der_vec.result _ (g.T.ToDer.writing.header_refuses x) (g.T.ToDer.writing.content_refuses x) h.0.1
    h.0.2 (c.to_der_vec.ensures.refused told)) c.to_der_vec.ensures.memory

pub returns-clause-der : goal.returns-clause-der
returns-clause-der g c = λ d.
    let x = c.args.x.now in
    let told = g.met.T.LawfulWrite.lawful_writing.tells_all x in
    let own = g.met.T.LawfulWrite.lawful_writing.der_writable x d in
    let octets = whole_octets g.T.ToDer.writing x in
    vector_done octets octets refl c.to_der_vec.result (c.to_der_vec.ensures.wrote told)
    (plain_vector c.to_der_vec.result _ (g.T.ToDer.writing.header_refuses x) (g.T.ToDer.writing.content_refuses x) own.1
    own.2 (c.to_der_vec.ensures.refused told)) c.to_der_vec.ensures.memory

pub returns-clause-headline : goal.returns-clause-headline
returns-clause-headline g c = λ d fits.
    let x = c.args.x.now in
    let strict = der_strict g.T.Grammar.grammar.value g.T.Grammar.grammar.IsDer g.T.Grammar.grammar.Form
    g.T.ToDer.writing g.met.T.LawfulWrite.lawful_writing.form g.met.T.LawfulWrite.lawful_writing.der_form
    g.met.T.LawfulItem.lawful_item.form_fits x d fits in
    let octets = whole_octets g.T.ToDer.writing x in
    (strict, vector_fits (λ v. v.items ≡ octets) octets c.to_der_vec.result fits (returns-clause-der g c d))

pub returns-clause-plain : goal.returns-clause-plain
returns-clause-plain g c = c.to_der_vec.ensures.wrote (g.met.T.LawfulWrite.lawful_writing.tells_all c.args.x.now)

pub returns-clause-one : goal.returns-clause-one
returns-clause-one g c = λ o p s t. one_strict g.T.Grammar.grammar.Form g.met.T.LawfulItem.lawful_item.one_form
    (g.T.Grammar.grammar.value c.args.x.now) o p s t

pub returns-clause-apart : goal.returns-clause-apart
returns-clause-apart g c = λ o p r s v w x y e.
    strict_apart g.T.Grammar.grammar.Form g.met.T.LawfulItem.lawful_item.one_value v w o p r s x y e
