use Rattle.std.proofs.Common.{inr, refl}
use Rattle.asn1_rs_profiles.proofs.refined.reading.RefinedFromDerByRefinedReader.read_by_der.Goals as goal

pub returns-in-Err-new : goal.returns-in-Err-new
returns-in-Err-new g c = inr (
  (c.in-Ok.rest.now, c.in-Ok.value),
  c.in-Ok.ensures,
  c.in-Err-new.ensures.0,
  (c.from.result, (c.in-Err-new.e, c.in-Err-new.ensures.1, c.from.ensures), refl),
)
