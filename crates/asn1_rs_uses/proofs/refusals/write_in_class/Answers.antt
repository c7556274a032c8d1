use Rattle.std.proofs.Common.{refl}
use Rattle.asn1_headers.specs.declared.error.SerializeError.TheVariants as serialize_errors
use Rattle.asn1_rs_uses.proofs.refusals.write_in_class.Goals as goal

pub returns : goal.returns
returns g c = λ h. c.write_der.ensures.first (serialize_errors.InvalidClass c.args.x.now.class) (h, refl)
