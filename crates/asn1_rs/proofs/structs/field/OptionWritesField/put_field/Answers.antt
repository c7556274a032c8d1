use Rattle.asn1_rs.specs.Fields.{taken_in}
use Rattle.asn1_rs.specs.Laws.Structs.Puts.{put_some}
use Rattle.asn1_rs.proofs.structs.field.OptionWritesField.put_field.Goals as goal

pub returns-in-Some : goal.returns-in-Some
returns-in-Some g c =
    put_some g.T.WritesType.type_writing c.args.self.now c.in-Some.x c.in-Some.is (taken_in c.args.fields.now)
    (taken_in c.put_type.new.fields) c.put_type.result c.put_type.ensures
