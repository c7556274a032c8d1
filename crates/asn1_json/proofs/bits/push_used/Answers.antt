use Rattle.std.proofs.Common.{◌≡◌, ◌∙◌, ap, ℕ, ◌+◌, ◌-◌, ◌*◌, List, Bool, length, length-append, take, arith}
use Rattle.asn1_schema.specs.Grammar.{bits_in}
use Rattle.asn1_schema.proofs.BitContents.{bits_length}
use Rattle.asn1_json.proofs.OctetsOfBits.{used_bits}
use Rattle.asn1_json.proofs.bits.push_used.Goals as goal

pub returns : goal.returns
returns c =
    let old = c.args.bits.now.items in
    let new = bits_in c.args.octets.now in
    let all = c.push_octets.new.bits.items in
    let used = 8 * length c.args.octets.now - c.args.unused in
    let added = ap (λ (bs : List Bool). length bs) c.in_ok-push_octets.ensures ∙ length-append old new in
    let octets = bits_length c.args.octets.now in
    let kept : c.len-start.result + c.saturating_sub.result ≡ length old + used =
    omega (arith, added, octets, c.args.bits.now.ok.0, c.push_octets.new.bits.ok.0) in
    c.truncate.ensures.items ∙ ap (λ (n : ℕ). take n all) kept ∙ used_bits old new all used c.in_ok-push_octets.ensures
