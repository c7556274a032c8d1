use Rattle.std.proofs.Common.{true}
use Rattle.asn1_rs.specs.Fields.{FieldsRefuseCount}
use Rattle.asn1_rs.proofs.Writing.{counted_refused, counted_at_once}
use Rattle.asn1_rs.specs.Structs.Data.{fields_of_struct}
use Rattle.asn1_rs.proofs.structs.writing.AnyToDerByFieldsKind.put_header.Goals as goal

pub returns-clause-refused : goal.returns-clause-refused
returns-clause-refused g c = λ t.
    (counted_refused true _ _ (FieldsRefuseCount (fields_of_struct g.T.LawfulStruct.laws) c.args.self.now)
    c.count_fields.result c.put_counted_header.result _ _ (c.count_fields.ensures.refused t)
    (c.put_counted_header.ensures.why true _ _) c.put_counted_header.ensures.refused)

pub returns-clause-at_once : goal.returns-clause-at_once
returns-clause-at_once g c = λ e t o.
    (counted_at_once true _ _ (FieldsRefuseCount (fields_of_struct g.T.LawfulStruct.laws) c.args.self.now)
    c.count_fields.result c.put_counted_header.result _ _ (c.count_fields.ensures.refused t)
    (λ e. c.count_fields.ensures.accepted e t) c.put_counted_header.ensures.refused e o)
