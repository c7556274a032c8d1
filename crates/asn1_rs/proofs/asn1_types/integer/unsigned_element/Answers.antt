use Rattle.std.proofs.Common.{◌≡◌, pos, arith, FitsSigned}
use Rattle.std.specs.Int.{w64}
use Rattle.std.proofs.lemmas.Int.{ints, to_z-of_z}
use Rattle.asn1_rs.proofs.UnsignedOctets.{same_octets}
use Rattle.asn1_rs.proofs.asn1_types.integer.unsigned_element.Goals as goal

pub returns-clause-element : goal.returns-clause-element
returns-clause-element c =
    let e : c.from.result ≡ pos c.args.n = c.from.ensures in
    let fits : FitsSigned w64 c.from.result = omega (arith, ints, e) in
    rw (same_octets c.args.n c.from.result e) (simp to_z-of_z at c.integer_element.ensures.element)
