use Rattle.std.proofs.Common.{arith}
use Rattle.asn1_schema.specs.Values.{bits}
use Rattle.asn1_schema.proofs.WrittenStrings.{piece_missing}
use Rattle.asn1_schema.proofs.WrittenBits.{unused_more}
use Rattle.asn1_schema.proofs.put_bits.unused_behind.Goals as goal

pub returns-in_default-clause-none : goal.returns-in_default-clause-none
returns-in_default-clause-none c =
    let s = c.loop-rest.invariant.leaves in
    piece_missing bits c.args.tape.now c.args.start c.loop-rest.rest c.args.end s.pieces
    c.requires.tape c.loop-rest-test.true s.puts c.in_default.ensures

pub loop-rest-preserved : goal.loop-rest-preserved
loop-rest-preserved c =
    let less = c.loop-rest-test.true in
    record {
      within = omega (arith, less);
      leaves = unused_more c.args.tape.now c.loop-rest.rest c.args.end c.loop-rest.unused c.used_part-skip.result.0
          c.in-Some.zeros c.used_part-skip.result.1.now c.in-Some.octets.now c.loop-rest.invariant.leaves c.in-Some.ensures
          c.used_part-skip.ensures.same c.used_part-skip.ensures.within;
    }
