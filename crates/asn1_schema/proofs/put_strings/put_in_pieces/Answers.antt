use Rattle.asn1_schema.specs.Tape.{string}
use Rattle.asn1_schema.specs.Writing.{before, sort_of, IsPlainString}
use Rattle.asn1_schema.proofs.WrittenLeaves.{refused}
use Rattle.asn1_schema.proofs.WrittenStrings.{no_string, end_is_no_leaf, never_begun, never_pieces, pieces_written}
use Rattle.asn1_schema.proofs.put_strings.put_in_pieces.Goals as goal

pub returns-in_default : goal.returns-in_default
returns-in_default c =
    let s = sort_of c.args.sort in
    refused (IsPlainString s) c.args.tape.now c.args.at c.args.buf.now
    (no_string s (before c.args.tape.now c.args.at)
    (end_is_no_leaf s (before c.args.tape.now c.args.at) _ c.args.count c.requires.last)
    (never_begun (string s) c.args.tape.now c.args.at c.args.count c.requires.last c.in_default.ensures))

pub returns-in-Ok : goal.returns-in-Ok
returns-in-Ok c = pieces_written (sort_of c.args.sort) c.args.tape.now c.args.at c.args.count c.in-Some.start c.args.buf.now
    c.put_pieces.new.buf c.requires.place c.requires.last c.in-Some.ensures c.in-Ok.ensures

pub returns-in-Err : goal.returns-in-Err
returns-in-Err c =
    let s = sort_of c.args.sort in (
      λ is. no_string s (before c.args.tape.now c.args.at)
          (end_is_no_leaf s (before c.args.tape.now c.args.at) _ c.args.count c.requires.last)
          (never_pieces (string s) c.args.tape.now c.args.at c.args.count c.in-Some.start c.requires.place c.requires.last
          c.in-Some.ensures (c.in-Err.ensures.0 is)),
      c.in-Err.ensures.1,
    )
