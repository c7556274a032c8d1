use Rattle.std.proofs.Common.{true, ◌++◌, ◌≤◌, length, length-append, arith}
use Rattle.x690.specs.Strict.{header_octets}
use Rattle.asn1_rs.specs.Fields.{fields_octets, FieldsRefuseCount}
use Rattle.asn1_rs.proofs.Lists.{MayRefuseCount_more}
use Rattle.asn1_rs.proofs.Writing.{element_refused, element_accepted}
use Rattle.asn1_rs.specs.Structs.Data.{fields_of_struct}
use Rattle.asn1_rs.proofs.structs.writing.AnyToDerByFieldsKind.element_count.Goals as goal

pub returns-clause-refused : goal.returns-clause-refused
returns-clause-refused g c = λ t.
    let joined = fields_octets (fields_of_struct g.T.LawfulStruct.laws) c.args.self.now in
    let shorter : length joined ≤ length (header_octets 0 true 16 (length joined) ++ joined) =
    simp length-append (omega arith) in
    (element_refused true _ _ (FieldsRefuseCount (fields_of_struct g.T.LawfulStruct.laws) c.args.self.now)
    c.count_fields.result c.element_len.result (c.count_fields.ensures.refused t)
    (c.element_len.ensures.why true 0 true joined (c.count_fields.ensures.count t))
    (λ e m. MayRefuseCount_more e true _ _ shorter m) c.element_len.ensures.refused)

pub returns-clause-accepted : goal.returns-clause-accepted
returns-clause-accepted g c = λ e t o. element_accepted (FieldsRefuseCount (fields_of_struct g.T.LawfulStruct.laws) c.args.self.now)
    c.count_fields.result c.element_len.result (λ e. c.count_fields.ensures.accepted e t) c.element_len.ensures.refused
    e o
