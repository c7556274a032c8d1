use Rattle.std.proofs.Common.{refl}
use Rattle.asn1_schema.specs.Values.{integer}
use Rattle.x690.specs.Digits.{twos_complement_value}
use Rattle.asn1_schema.proofs.numbers.integer_item.Goals as goal

pub returns : goal.returns
returns c = λ nodes depth of. (
  integer (twos_complement_value c.args.content.now),
  refl,
  (twos_complement_value c.args.content.now, refl, c.if-head.false, c.if-not-is_integer.ensures.yes refl),
)
