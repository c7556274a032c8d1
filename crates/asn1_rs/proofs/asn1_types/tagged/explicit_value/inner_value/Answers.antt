use Rattle.std.proofs.Common.{refl}
use Rattle.asn1_rs.proofs.asn1_types.tagged.explicit_value.inner_value.Goals as goal

pub returns-in-Ok : goal.returns-in-Ok
returns-in-Ok g c = (c.in-Ok.field-0-0.now, rw c.in-Ok.is refl)
