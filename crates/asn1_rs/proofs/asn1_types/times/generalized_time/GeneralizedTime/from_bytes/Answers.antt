use Rattle.std.proofs.Common.{refl, arith}
use Rattle.asn1_rs.proofs.asn1_types.times.generalized_time.GeneralizedTime.from_bytes.Goals as goal

pub returns-in-None : goal.returns-in-None
returns-in-None c = (c.in-None.ensures.none refl, c.invalid_value.ensures.whole (omega arith))
