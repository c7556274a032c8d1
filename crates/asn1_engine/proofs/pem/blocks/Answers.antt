use Rattle.std.proofs.Common.{arith}
use Rattle.std.proofs.lemmas.Result.{err_from_is_err_and}
use Rattle.asn1_engine.proofs.Blocks.{ends_here, first_mistake, goes_behind, goes_past}
use Rattle.asn1_engine.proofs.pem.blocks.Goals as goal

pub returns-in_err-read_block-clause-err : goal.returns-in_err-read_block-clause-err
returns-in_err-read_block-clause-err c =
    let p = err_from_is_err_and c.from_residual.result c.from_residual.ensures.1 in
    rw (p.1, p.2) (first_mistake c.args.text.now c.loop-line.lines.taken c.next_line.new.self.taken
    c.loop-line.lines.rest.now c.in-Some.line.now c.next_line.new.self.rest.now c.in-Some-begin_label.label.now
    c.loop-line.closed.items c.in_err-read_block.field-0.0 c.in-Some.ensures.counted c.in-Some.ensures.some
    c.in-Some-begin_label.ensures c.loop-line.invariant.1 c.in_err-read_block.ensures.err)

pub loop-line-preserved-in_ok-push : goal.loop-line-preserved-in_ok-push
loop-line-preserved-in_ok-push c = (
  c.in_ok-read_block.ensures.room,
  goes_behind c.args.text.now c.loop-line.lines.taken c.next_line.new.self.taken c.read_block.new.lines.taken
      c.loop-line.lines.rest.now c.in-Some.line.now c.next_line.new.self.rest.now c.in-Some-begin_label.label.now
      c.read_block.new.lines.rest.now c.loop-line.closed.items c.push.new.self.items c.in_ok-read_block.field-0
      c.in-Some.ensures.counted c.in-Some.ensures.some c.in-Some-begin_label.ensures c.in_ok-read_block.ensures.ok
      c.in_ok-push.ensures.items c.loop-line.invariant.1,
)

pub loop-line-preserved : goal.loop-line-preserved
loop-line-preserved c = (
  omega (arith, c.in-Some.ensures.counted, c.in-Some.ensures.fewer),
  goes_past c.args.text.now c.loop-line.lines.taken c.next_line.new.self.taken c.loop-line.lines.rest.now
      c.in-Some.line.now c.next_line.new.self.rest.now c.loop-line.closed.items c.in-Some.ensures.counted
      c.in-Some.ensures.some c.in_default-begin_label.ensures c.loop-line.invariant.1,
)

pub returns-clause-ok : goal.returns-clause-ok
returns-clause-ok c =
    ends_here c.args.text.now c.loop-line.lines.taken c.loop-line.lines.rest.now c.loop-line.closed.items
    c.in_default.ensures.none.0 c.loop-line.invariant.1
