use Rattle.std.proofs.Common.{sym, subst, ap, refl, List, Bool}
use Rattle.asn1_schema.specs.declared.coding.Coding.{Coding}
use Rattle.asn1_schema.specs.Values.{bits, leaf}
use Rattle.asn1_schema.specs.Bits.{used_bits}
use Rattle.asn1_schema.specs.Reading.{rules_of}
use Rattle.asn1_schema.proofs.NamedBits.{by_rules}
use Rattle.asn1_schema.proofs.bits.named_item.Goals as goal

pub returns-then-not-ends_in_one : goal.returns-then-not-ends_in_one
returns-then-not-ends_in_one c = λ v a.
    let named = subst (λ (z : Coding). (rules_of z).Named (used_bits c.args.unused c.args.octets.now)) c.in-Der.is a.1 in
    let yes = c.ends_in_one.ensures.1 named in
    let no = c.if-not-ends_in_one.true in
    absurd (cc)

pub returns-else-not-ends_in_one : goal.returns-else-not-ends_in_one
returns-else-not-ends_in_one c =
    let bs = used_bits c.args.unused c.args.octets.now in
    let same = c.ends_in_one.ensures.0 c.if-not-ends_in_one.false in
    (bits bs, refl, (ap (λ (z : List Bool). leaf (bits z)) (sym same), by_rules c.args.coding bs same))

pub returns-in-Ber : goal.returns-in-Ber
returns-in-Ber c =
    let bs = used_bits c.args.unused c.args.octets.now in (
      bits (used_bits c.without_zeros-zeros.result.0 c.without_zeros-zeros.result.1.now),
      refl,
      (
        ap (λ (z : List Bool). leaf (bits z)) c.without_zeros-zeros.ensures.same,
        subst (λ (z : Coding). (rules_of z).Named bs) (sym c.in-Ber.is) tt,
      ),
    )
