use Rattle.asn1_schema.specs.Values.{bits}
use Rattle.asn1_schema.specs.Writing.{before, IsPlainBits}
use Rattle.asn1_schema.proofs.WrittenLeaves.{refused}
use Rattle.asn1_schema.proofs.WrittenStrings.{never_begun, never_pieces}
use Rattle.asn1_schema.proofs.WrittenBits.{no_bits, end_is_no_bits, bits_written}
use Rattle.asn1_schema.proofs.put_bits.put_in_pieces.Goals as goal

pub returns-in_default : goal.returns-in_default
returns-in_default c = refused IsPlainBits c.args.tape.now c.args.at c.args.buf.now
    (no_bits (before c.args.tape.now c.args.at)
    (end_is_no_bits (before c.args.tape.now c.args.at) _ c.args.count c.requires.last)
    (never_begun bits c.args.tape.now c.args.at c.args.count c.requires.last c.in_default.ensures))

pub returns-in-Ok : goal.returns-in-Ok
returns-in-Ok c = bits_written c.args.tape.now c.args.at c.args.count c.in-Some.start c.args.buf.now
    c.put_bit_pieces.new.buf c.requires.place c.requires.last c.in-Some.ensures c.in-Ok.ensures

pub returns-in-Err : goal.returns-in-Err
returns-in-Err c = (
  λ is. no_bits (before c.args.tape.now c.args.at)
      (end_is_no_bits (before c.args.tape.now c.args.at) _ c.args.count c.requires.last)
      (never_pieces bits c.args.tape.now c.args.at c.args.count c.in-Some.start c.requires.place c.requires.last
      c.in-Some.ensures (c.in-Err.ensures.0 is)),
  c.in-Err.ensures.1,
)
