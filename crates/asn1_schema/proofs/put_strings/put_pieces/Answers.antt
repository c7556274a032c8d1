use Rattle.std.proofs.Common.{arith}
use Rattle.asn1_schema.specs.Values.{joined}
use Rattle.asn1_schema.specs.Tape.{string}
use Rattle.asn1_schema.specs.Writing.{sort_of}
use Rattle.asn1_schema.proofs.WrittenStrings.{piece_missing, octets_joined}
use Rattle.asn1_schema.proofs.put_strings.put_pieces.Goals as goal

pub returns-in_default : goal.returns-in_default
returns-in_default c =
    let j = c.loop-rest.invariant.joins in (
      λ _. piece_missing (string (sort_of c.args.sort)) c.args.tape.now c.args.start c.loop-rest.rest c.args.end j.pieces
          c.requires.tape c.loop-rest-test.true j.puts c.in_default.ensures,
      (joined j.pieces, j.put),
    )

pub loop-rest-preserved : goal.loop-rest-preserved
loop-rest-preserved c =
    let less = c.loop-rest-test.true in
    record {
      within = omega (arith, less);
      joins = octets_joined (sort_of c.args.sort) c.args.tape.now c.loop-rest.rest c.args.end c.args.buf.now c.loop-rest.buf
          c.put.new.buf c.in-Some.octets.now c.loop-rest.invariant.joins c.put.ensures.octets c.in-Some.ensures c.in-Ok.ensures.ok;
    }
