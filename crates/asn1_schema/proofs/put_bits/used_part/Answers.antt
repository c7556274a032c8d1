use Rattle.std.proofs.Common.{◌∙◌, ap, ℕ, List, ◌%◌, ◌-◌, length, arith}
use Rattle.asn1_schema.specs.Bits.{used_bits}
use Rattle.asn1_schema.proofs.DigitsJoined.{used_front}
use Rattle.asn1_schema.proofs.put_bits.used_part.Goals as goal

pub returns-clause-same : goal.returns-clause-same
returns-clause-same c =
    let more = c.if-whole-octets.false in
    let whole = c.from-whole.ensures in
    let k = length c.args.octets.now - c.from-whole.result in
    ap (λ (z : List ℕ). used_bits (c.args.unused % 8) z) (c.split_at.ensures.front)
    ∙ used_front c.args.unused k c.args.octets.now (omega (arith, more, whole))
