use Rattle.std.proofs.Common.{arith}
use Rattle.std.proofs.lemmas.Nat.{leading_le, leading_length}
use Rattle.x690.proofs.Bytes.{octets_of_bits}
use Rattle.x690.proofs.signed.word_octets_count.Goals as goal

pub overflow_sub-bits : goal.overflow_sub-bits
overflow_sub-bits c = leading_le 64 c.args.n

pub returns : goal.returns
returns c =
    let (m, e, below, above) = leading_length 64 c.args.n (omega arith) in
    omega (arith, e, octets_of_bits m c.args.n below above)
