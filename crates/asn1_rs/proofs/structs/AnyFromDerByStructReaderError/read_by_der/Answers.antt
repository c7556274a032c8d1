use Rattle.std.proofs.Common.{refl, inr}
use Rattle.asn1_rs.proofs.structs.AnyFromDerByStructReaderError.read_by_der.Goals as goal

pub returns : goal.returns
returns g c = inr (
  c.in_ok-rest.any,
  c.in_ok-rest.rest.now,
  rw c.in_ok-rest.ensures at c.element_by_der.ensures,
  inr (refl, (c.in-Err.e, c.in-Err.ensures, refl)),
)
