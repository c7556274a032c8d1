use Rattle.std.proofs.Common.{arith, length, refl, ◌+◌, Ok, Err}
use Rattle.asn1_rs.proofs.PutFields.{puts_taken, puts_refused, puts_uncounted, row_counted, from_none_counted}
use Rattle.asn1_rs.specs.Fields.{counted, fields_octets, FieldsRefuseCount}
use Rattle.asn1_rs.specs.Structs.Data.{fields_of_struct}
use Rattle.asn1_rs.proofs.structs.writing.count_fields.Goals as goal

pub returns-in-Ok-clause-count : goal.returns-in-Ok-clause-count
returns-in-Ok-clause-count g c = λ t.
    let list = fields_of_struct g.T.LawfulStruct.laws in
    let put = row_counted g.T.LawfulStruct.laws.as_row g.T.LawfulStruct.laws.row.list c.args.value.now _ _ (Ok tt)
    c.counted-fields.ensures c.in-Ok.ensures in
    let taken = puts_taken list c.args.value.now (counted 0) _ refl t put in
    omega (arith, c.count.ensures (0 + length (fields_octets list c.args.value.now)) taken)

pub returns-in-Ok-clause-accepted : goal.returns-in-Ok-clause-accepted
returns-in-Ok-clause-accepted g c = λ e t o.
    let put = row_counted g.T.LawfulStruct.laws.as_row g.T.LawfulStruct.laws.row.list c.args.value.now _ _ (Ok tt)
    c.counted-fields.ensures c.in-Ok.ensures in
    absurd (puts_uncounted (fields_of_struct g.T.LawfulStruct.laws) c.args.value.now (counted 0) _ e refl t o put)

pub returns-clause-refused : goal.returns-clause-refused
returns-clause-refused g c = λ t.
    let list = fields_of_struct g.T.LawfulStruct.laws in
    let put = row_counted g.T.LawfulStruct.laws.as_row g.T.LawfulStruct.laws.row.list c.args.value.now _ _
    (Err c.in-Err.e) c.counted-fields.ensures c.in-Err.ensures in
    let r = puts_refused list c.args.value.now (counted 0) _ c.in-Err.e refl t put in
    rw (c.refusal_in_counting.ensures r.0 r.2)
    (from_none_counted (length (fields_octets list c.args.value.now)) (FieldsRefuseCount list c.args.value.now) r.0 r.1)
