use Rattle.std.proofs.Common.{arith, refl}
use Rattle.x690.specs.Octets.{IsOctets}
use Rattle.asn1_schema.proofs.LargeNumbers.{low_within, low_outside}
use Rattle.asn1_schema.proofs.bounds.large_within.Goals as goal

pub returns-in-Some : goal.returns-in-Some
returns-in-Some c =
    let octets : IsOctets c.args.octets.now = λ k. omega (arith, c.type_inv.octets k) in
    low_outside c.args.octets.now octets c.requires c.args.lower c.args.upper c.in-Some.field-0 c.are_held.ensures
    (c.if-is_negative.ensures.0 refl) c.in-Some.is

pub returns-in-None : goal.returns-in-None
returns-in-None c =
    let octets : IsOctets c.args.octets.now = λ k. omega (arith, c.type_inv.octets k) in
    low_within c.args.octets.now octets c.requires c.args.lower c.args.upper c.are_held-2.ensures
    (c.if-is_negative.ensures.0 refl) c.in-None.is
