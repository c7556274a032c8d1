-- Laws of messages. The proofs of their author open them. What holds a message goes by their names. So the time of its
-- check does not grow with what stands below.
use Rattle.std.specs.Prelude.{refl}
use Rattle.asn1_rs.specs.Prelude.{choice_type, struct_of}
use Rattle.asn1_rs.specs.Structs.Data.{LawfulStructOf, end_row, field_of, then_row}
use Rattle.asn1_rs.specs.Structs.Types.{oid_type}
use Rattle.asn1_rs_snmp.specs.contracts.value.BindingValueLawfulChoice.TheImpl as value
use Rattle.asn1_rs_snmp.specs.declared.binding.VarBind.{VarBind}

unfoldable pub var_bind_laws : LawfulStructOf VarBind
var_bind_laws = struct_of (λ x. (x.name, (x.value, tt)))
    (then_row (field_of oid_type) (then_row (field_of (choice_type value.ghosts.laws)) end_row)) refl
