use Rattle.std.proofs.Common.{FitsSigned, refl, ◌∙◌}
use Rattle.std.specs.Int.{w64}
use Rattle.std.proofs.lemmas.Int.{to_z-of_z}
use Rattle.asn1_rs.proofs.UnsignedOctets.{same_octets}
use Rattle.asn1_rs.proofs.asn1_types.integer.unsigned_piece.Goals as goal

pub returns : goal.returns
returns c =
    let is = c.in-Ok.ensures in
    let fits : FitsSigned w64 c.in-Ok.n = rw (is.1) is.0 in (
      refl,
      c.new.ensures.count,
      c.new.ensures.octets ∙ rw (same_octets c.args.n c.in-Ok.n is.1)
          (simp to_z-of_z at c.integer_element-count.ensures.element),
    )
