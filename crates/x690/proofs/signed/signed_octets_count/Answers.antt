use Rattle.std.proofs.Common.{◌≡◌, ◌⊎◌, pos, negsuc, sym, ◌∙◌, arith, FitsSigned}
use Rattle.std.specs.Int.{w128}
use Rattle.std.proofs.lemmas.Int.{ints, to_z-of_z}
use Rattle.x690.specs.Signed.{IsSigned}
use Rattle.x690.specs.Laws.Signed.{signed_octets_few, signed_octets_length}
use Rattle.x690.proofs.signed.signed_octets_count.Goals as goal

pub returns-clause-count : goal.returns-clause-count
returns-clause-count c =
    let fits : FitsSigned w128 c.args.n = c.ranges.n in
    let parts : (c.args.n ≡ pos c.without_sign.result) ⊎ (c.args.n ≡ negsuc c.without_sign.result) =
    simp to_z-of_z at c.without_sign.ensures in
    c.unsigned_octets_count.ensures.count ∙ sym (signed_octets_length c.args.n c.without_sign.result parts)

pub returns-clause-few : goal.returns-clause-few
returns-clause-few c =
    let fits : FitsSigned w128 c.args.n = c.ranges.n in
    let parts : (c.args.n ≡ pos c.without_sign.result) ⊎ (c.args.n ≡ negsuc c.without_sign.result) =
    simp to_z-of_z at c.without_sign.ensures in
    let size : IsSigned 16 c.args.n = record { least = omega (arith, ints); most = omega (arith, ints) } in
    omega (
      arith,
      c.unsigned_octets_count.ensures.count,
      signed_octets_length c.args.n c.without_sign.result parts,
      signed_octets_few c.args.n 16 (omega arith) size,
    )
