use Rattle.std.proofs.Common.{◌++◌, subst}
use Rattle.std.specs.Io.KnownBytes.{Appends}
use Rattle.asn1_schema.specs.Reading.{IsWordOf}
use Rattle.asn1_typed.specs.Decodings.{DecodesNext}
use Rattle.asn1_engine.proofs.Told.{told_twice}
use Rattle.asn1_typed.proofs.NoValues.{one_front}
use Rattle.asn1_typed.proofs.ValuesInRow.{rest_shorter, row_more}
use Rattle.asn1_typed.proofs.decoding.decode_lines.Goals as goal

pub loop-left-smaller : goal.loop-left-smaller
loop-left-smaller g c =
    let table = c.args.schema.now.nodes.items in
    let coding = c.args.by.coding in
    let e = subst (DecodesNext c.args.by c.args.schema.now c.args.of c.loop-left.left) c.in-Value.is c.in_ok-text.ensures in
    rest_shorter (IsWordOf coding table 64 c.args.of) c.loop-left.left.octets.now c.in-Value.rest.now e.0
    ((one_front coding table 64 c.args.of c.requires).some e.0) e.1

pub loop-left-preserved : goal.loop-left-preserved
loop-left-preserved g c =
    let i = c.loop-left.invariant in
    let e = subst (DecodesNext c.args.by c.args.schema.now c.args.of c.loop-left.left) c.in-Value.is c.in_ok-text.ensures in
    let text = c.in-Value.text.items in
    let contents = g.W.Write.contents in
    let written = subst (Appends (contents c.loop-left.out) (contents c.write_all.new.self)) c.deref.ensures.value
    c.in_ok-write_all-in-Value.ensures.bytes in (
      i.0 ++ text,
      row_more c.args.by c.args.schema.now c.args.of c.args.input c.loop-left.left i.0 text e.0 c.in-Value.rest
          c.saturating_add.result i.1 e.1 e.2 c.saturating_add.ensures,
      told_twice (contents c.args.out.now) (contents c.loop-left.out) (contents c.write_all.new.self) i.0 text i.2 written,
    )
