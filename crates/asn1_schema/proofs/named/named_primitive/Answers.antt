use Rattle.std.proofs.Common.{subst, List, Bool}
use Rattle.asn1_schema.specs.Bits.{used_bits, IsNamed, IsNamedPrimitive}
use Rattle.asn1_schema.specs.Reading.{rules_of}
use Rattle.asn1_schema.proofs.Strings.{one_bits}
use Rattle.asn1_schema.proofs.Taken.{judges_map}
use Rattle.asn1_schema.proofs.named.named_primitive.Goals as goal

pub returns-in-Some : goal.returns-in-Some
returns-in-Some c =
    let bs = used_bits c.in-Some.unused c.in-Some.octets.now in
    judges_map (IsNamed c.args.coding bs) (IsNamedPrimitive c.args.coding c.args.content.now)
    (λ v a. (bs, a, c.in-Some.ensures.some))
    (λ v b. subst (λ (z : List Bool). IsNamed c.args.coding z v)
    (one_bits (rules_of c.args.coding) c.args.content.now b.0 bs b.2 c.in-Some.ensures.some) b.1)
    c.named_item.result c.named_item.ensures

pub returns-in-None : goal.returns-in-None
returns-in-None c = λ v b. c.in-None.ensures.none b.0 b.2
