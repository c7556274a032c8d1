use Rattle.std.proofs.Common.{◌∙◌, ap, arith, [], append-nil, length, Ok, Err}
use Rattle.std.proofs.lemmas.Bool.{false≢true}
use Rattle.asn1_rs.proofs.Prepending.{vector_more}
use Rattle.asn1_rs.proofs.PutBack.{row_put_back}
use Rattle.asn1_rs.proofs.PutFields.{vector_refuses_again}
use Rattle.asn1_rs.specs.Fields.{prepended, collected, fields_octets, FieldsRefuse}
use Rattle.asn1_rs.specs.Structs.Data.{fields_of_struct}
use Rattle.asn1_rs.proofs.structs.writing.take_fields.Goals as goal

pub returns-in-Ok-clause-octets : goal.returns-in-Ok-clause-octets
returns-in-Ok-clause-octets g c = λ t.
    let b = row_put_back g.T.LawfulStruct.laws.as_row g.T.LawfulStruct.laws.row.list c.args.value.now [] _ _ (Ok tt)
    (c.before-fields.ensures ∙ ap prepended c.new.ensures) t c.in-Ok.ensures in
    ap collected b.stands ∙ b.put ∙ append-nil _

pub returns-in-Ok-clause-accepted : goal.returns-in-Ok-clause-accepted
returns-in-Ok-clause-accepted g c = λ e t o.
    let b = row_put_back g.T.LawfulStruct.laws.as_row g.T.LawfulStruct.laws.row.list c.args.value.now [] _ _ (Ok tt)
    (c.before-fields.ensures ∙ ap prepended c.new.ensures) t c.in-Ok.ensures in
    absurd (false≢true (b.accepted e o))

pub returns-in-Ok-clause-uncounted : goal.returns-in-Ok-clause-uncounted
returns-in-Ok-clause-uncounted g c = λ e t o.
    let b = row_put_back g.T.LawfulStruct.laws.as_row g.T.LawfulStruct.laws.row.list c.args.value.now [] _ _ (Ok tt)
    (c.before-fields.ensures ∙ ap prepended c.new.ensures) t c.in-Ok.ensures in
    absurd (false≢true (b.uncounted e o))

pub returns-in-Err-clause-refused : goal.returns-in-Err-clause-refused
returns-in-Err-clause-refused g c = λ t.
    let list = fields_of_struct g.T.LawfulStruct.laws in
    let b = row_put_back g.T.LawfulStruct.laws.as_row g.T.LawfulStruct.laws.row.list c.args.value.now [] _ _
    (Err c.in-Err.e) (c.before-fields.ensures ∙ ap prepended c.new.ensures) t c.in-Err.ensures in
    vector_refuses_again c.in-Err.e c.without_io.result (length (fields_octets list c.args.value.now))
    (FieldsRefuse list c.args.value.now) (c.without_io.ensures.refused _ _) c.without_io.ensures.same
    (vector_more c.in-Err.e _ _ (FieldsRefuse list c.args.value.now) (omega arith) b.refused)
