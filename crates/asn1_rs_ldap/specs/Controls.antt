-- The laws of a control of LDAP. The proofs of the control's three functions open them. What holds a control goes by
-- their name.
use Rattle.std.specs.Prelude.{false, refl}
use Rattle.asn1_rs.specs.Laws.OctetString.{octet_string_lawful}
use Rattle.asn1_rs.specs.OctetString.{octet_string_leaf}
use Rattle.asn1_rs.specs.Prelude.{struct_of}
use Rattle.asn1_rs.specs.Structs.Data.{LawfulStructOf, end_row, field_of, optional_of, then_row}
use Rattle.asn1_rs.specs.Structs.DefaultTypes.{default_bool, defaulted_of}
use Rattle.asn1_rs.specs.Structs.Types.{leaf_type}
use Rattle.asn1_rs_ldap.specs.declared.control.Control.{Control}

unfoldable pub control_laws : LawfulStructOf Control
control_laws = struct_of (λ x. (x.control_type, (x.criticality, (x.value, tt))))
    (then_row (field_of (leaf_type octet_string_leaf octet_string_lawful))
    (then_row (defaulted_of (λ d. d.value) (default_bool false))
    (then_row (optional_of (leaf_type octet_string_leaf octet_string_lawful)) end_row))) refl
