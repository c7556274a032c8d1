use Rattle.std.proofs.Common.{arith}
use Rattle.asn1_schema.specs.Values.{bits}
use Rattle.asn1_schema.specs.Tape.{leaf_mark}
use Rattle.asn1_schema.specs.Writing.{before, IsPlainBits}
use Rattle.asn1_schema.proofs.WrittenLeaves.{refused}
use Rattle.asn1_schema.proofs.WrittenStrings.{no_pieces_end}
use Rattle.asn1_schema.proofs.WrittenBits.{no_bits, nothing_ends, never_bits, bits_leaf_written}
use Rattle.asn1_schema.proofs.put_bits.put_plain_bits.Goals as goal

pub returns-then-at-eq0 : goal.returns-then-at-eq0
returns-then-at-eq0 c =
    let none = c.if-at-eq0.true in
    refused IsPlainBits c.args.tape.now c.args.at c.args.buf.now
    (no_bits (before c.args.tape.now c.args.at)
    (λ bs. nothing_ends c.args.tape.now c.args.at (grind (arith, none)) (leaf_mark (bits bs)))
    (no_pieces_end bits (before c.args.tape.now c.args.at) c.in-None.ensures))

pub returns-in-Ok : goal.returns-in-Ok
returns-in-Ok c =
    let some = c.if-at-eq0.false in
    bits_leaf_written c.args.tape.now c.args.at c.args.buf.now c.put_bit_pieces.new.buf (grind (arith, some)) c.in-Ok.ensures

pub returns-in-Err : goal.returns-in-Err
returns-in-Err c =
    let some = c.if-at-eq0.false in (
      λ is. no_bits (before c.args.tape.now c.args.at)
          (never_bits c.args.tape.now c.args.at (grind (arith, some)) c.requires (c.in-Err.ensures.0 is))
          (no_pieces_end bits (before c.args.tape.now c.args.at) c.in-None.ensures),
      c.in-Err.ensures.1,
    )
