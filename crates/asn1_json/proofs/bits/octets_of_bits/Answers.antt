use Rattle.std.proofs.Common.{◌≡◌, ◌∙◌, ap, ℕ, ◌<◌, length, drop, min, arith}
use Rattle.std.proofs.lemmas.List.{drop_min}
use Rattle.std.proofs.lemmas.Bool.Decides.{nat_tests}
use Rattle.asn1_json.specs.Leaves.{octets_of_bits}
use Rattle.asn1_json.proofs.OctetsOfBits.{octets_step}
use Rattle.asn1_json.proofs.bits.octets_of_bits.Goals as goal

pub loop-rest-preserved : goal.loop-rest-preserved
loop-rest-preserved c =
    let rest = c.loop-rest.rest.now in
    let some : 0 < length rest = grind (arith, nat_tests) in
    let most : c.min.result ≡ min 8 (length rest) = omega arith in
    octets_step c.loop-rest.octets.items c.push.new.self.items (octets_of_bits c.args.bits.now) rest c.split_at.result.1.now
    c.first_octet.result some c.first_octet.ensures c.in_ok-push.ensures.items
    (c.split_at.ensures.back ∙ ap (λ (n : ℕ). drop n rest) most ∙ drop_min 8 rest) c.loop-rest.invariant
