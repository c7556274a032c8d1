use Rattle.std.proofs.Common.{refl}
use Rattle.asn1_schema.specs.Values.{null}
use Rattle.asn1_schema.proofs.numbers.null_item.Goals as goal

pub returns : goal.returns
returns c = λ nodes depth of. (null, refl, (refl, c.if-head.false, c.if-not-is_at_end.ensures.yes refl))
