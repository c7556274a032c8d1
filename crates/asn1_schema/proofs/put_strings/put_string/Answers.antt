use Rattle.std.proofs.Common.{refl}
use Rattle.asn1_schema.specs.Tape.{string}
use Rattle.asn1_schema.specs.Writing.{before, sort_of, IsPlainString}
use Rattle.asn1_schema.proofs.WrittenLeaves.{refused, leaf_written}
use Rattle.asn1_schema.proofs.WrittenStrings.{no_string, no_pieces_end}
use Rattle.asn1_schema.proofs.put_strings.put_string.Goals as goal

pub returns-in-Some : goal.returns-in-Some
returns-in-Some c =
    let s = sort_of c.args.sort in
    leaf_written (IsPlainString s) c.args.tape.now c.args.at c.args.buf.now c.put_at.new.buf c.in-Some.octets.now
    (string s c.in-Some.octets.now) c.put_at.result c.put_at.ensures.octets refl c.in-Some.ensures c.put_at.ensures.put

pub returns-in-None-last_pieces : goal.returns-in-None-last_pieces
returns-in-None-last_pieces c =
    let s = sort_of c.args.sort in
    refused (IsPlainString s) c.args.tape.now c.args.at c.args.buf.now
    (no_string s (before c.args.tape.now c.args.at) c.in-None.ensures
    (no_pieces_end (string s) (before c.args.tape.now c.args.at) c.in-None-last_pieces.ensures))
