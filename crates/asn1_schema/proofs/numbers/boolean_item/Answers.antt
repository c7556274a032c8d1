use Rattle.std.proofs.Common.{refl}
use Rattle.asn1_schema.specs.Values.{boolean}
use Rattle.asn1_schema.proofs.numbers.boolean_item.Goals as goal

pub returns-in-Some : goal.returns-in-Some
returns-in-Some c = λ nodes depth of. (boolean c.in-Some.value, refl, (c.in-Some.value, refl, c.if-head.false, c.in-Some.ensures.some))
