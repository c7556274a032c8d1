use Rattle.std.proofs.Common.{arith}
use Rattle.asn1_schema.specs.Values.{bits}
use Rattle.asn1_schema.specs.Bits.{used_bits}
use Rattle.asn1_schema.proofs.WrittenLeaves.{grew_on}
use Rattle.asn1_schema.proofs.WrittenStrings.{piece_missing}
use Rattle.asn1_schema.proofs.WrittenBits.{piece_joined}
use Rattle.asn1_schema.proofs.put_bits.push_pieces.Goals as goal

pub returns-in_default : goal.returns-in_default
returns-in_default c =
    let s = c.loop-rest.invariant.joins in (
      λ _. piece_missing bits c.args.tape.now c.args.start c.loop-rest.rest c.args.end s.pieces
          c.requires.tape c.loop-rest-test.true s.puts c.in_default.ensures,
      (s.pushes.octets, s.pushes.put),
    )

pub returns-in-Err : goal.returns-in-Err
returns-in-Err c =
    let s = c.loop-rest.invariant.joins in (
      λ is. absurd (c.in-Err.ensures.0 is),
      grew_on c.args.buf.now c.loop-rest.buf c.push_piece.new.buf (s.pushes.octets, s.pushes.put) c.in-Err.ensures.1,
    )

pub loop-rest-preserved : goal.loop-rest-preserved
loop-rest-preserved c =
    let less = c.loop-rest-test.true in
    record {
      within = omega (arith, less);
      joins = piece_joined c.args.tape.now c.loop-rest.rest c.args.end c.args.pending c.loop-rest.so_far c.in-Ok.next
          c.args.buf.now c.loop-rest.buf c.push_piece.new.buf (used_bits c.in-Some.unused c.in-Some.octets.now)
          c.loop-rest.invariant.joins c.in-Some.ensures c.in-Ok.ensures;
    }
