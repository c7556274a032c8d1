use Rattle.std.proofs.Common.{◌≡◌, ◌∙◌, ap, arith, sym, subst, ◌++◌, length, length-append, Ok, Err}
use Rattle.std.proofs.lemmas.Bool.{false≢true}
use Rattle.asn1_headers.specs.Laws.Prepending.{Prepended_all}
use Rattle.asn1_headers.specs.Prepended.{GrewByAnEnd}
use Rattle.asn1_rs.proofs.PutBack.{row_put_back}
use Rattle.asn1_rs.proofs.PutFields.{vector_refuses_again}
use Rattle.asn1_rs.specs.Fields.{prepended, fields_octets, FieldsRefuse}
use Rattle.asn1_rs.specs.Structs.Data.{fields_of_struct}
use Rattle.asn1_rs.proofs.structs.writing.prepend_fields.Goals as goal

pub returns-in-Ok-clause-prepended : goal.returns-in-Ok-clause-prepended
returns-in-Ok-clause-prepended g c = λ t.
    let list = fields_of_struct g.T.LawfulStruct.laws in
    let b = row_put_back g.T.LawfulStruct.laws.as_row g.T.LawfulStruct.laws.row.list c.args.value.now c.args.buf.now _ _
    (Ok tt) (c.before-fields.ensures ∙ ap prepended c.replace.ensures.value) t c.in-Ok.ensures in
    let is : c.into_buffer.result ≡ fields_octets list c.args.value.now ++ c.args.buf.now =
    c.into_buffer.ensures b.there b.stands ∙ b.put in
    let n = ap length is in
    Prepended_all
    (omega (arith, simp length-append at n, c.saturating_sub.ensures, c.len.ensures, c.len-held.ensures)) is

pub returns-in-Ok-clause-accepted : goal.returns-in-Ok-clause-accepted
returns-in-Ok-clause-accepted g c = λ e t o.
    let b = row_put_back g.T.LawfulStruct.laws.as_row g.T.LawfulStruct.laws.row.list c.args.value.now c.args.buf.now _ _
    (Ok tt) (c.before-fields.ensures ∙ ap prepended c.replace.ensures.value) t c.in-Ok.ensures in
    absurd (false≢true (b.accepted e o))

pub returns-in-Ok-clause-uncounted : goal.returns-in-Ok-clause-uncounted
returns-in-Ok-clause-uncounted g c = λ e t o.
    let b = row_put_back g.T.LawfulStruct.laws.as_row g.T.LawfulStruct.laws.row.list c.args.value.now c.args.buf.now _ _
    (Ok tt) (c.before-fields.ensures ∙ ap prepended c.replace.ensures.value) t c.in-Ok.ensures in
    absurd (false≢true (b.uncounted e o))

pub returns-in-Err-clause-prepended : goal.returns-in-Err-clause-prepended
returns-in-Err-clause-prepended g c = λ t.
    let list = fields_of_struct g.T.LawfulStruct.laws in
    let b = row_put_back g.T.LawfulStruct.laws.as_row g.T.LawfulStruct.laws.row.list c.args.value.now c.args.buf.now _ _
    (Err c.in-Err.e) (c.before-fields.ensures ∙ ap prepended c.replace.ensures.value) t c.in-Err.ensures in
    record {
      ok = tt;
      err = subst (GrewByAnEnd (fields_octets list c.args.value.now) c.args.buf.now)
          (sym (c.into_buffer.ensures b.there b.stands)) b.grew;
      memory = c.without_io.ensures.io;
    }

pub returns-in-Err-clause-refused : goal.returns-in-Err-clause-refused
returns-in-Err-clause-refused g c = λ t.
    let list = fields_of_struct g.T.LawfulStruct.laws in
    let b = row_put_back g.T.LawfulStruct.laws.as_row g.T.LawfulStruct.laws.row.list c.args.value.now c.args.buf.now _ _
    (Err c.in-Err.e) (c.before-fields.ensures ∙ ap prepended c.replace.ensures.value) t c.in-Err.ensures in
    vector_refuses_again c.in-Err.e c.without_io.result _ (FieldsRefuse list c.args.value.now)
    (c.without_io.ensures.refused _ _) c.without_io.ensures.same b.refused
