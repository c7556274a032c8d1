use Rattle.std.proofs.Common.{◌∙◌, refl}
use Rattle.asn1vec_engine.proofs.Appended.{on_err}
use Rattle.asn1vec_engine.proofs.Moved.{moves_start, moves_line, begins_line, moves_rest, begins_rest, shorter}
use Rattle.asn1vec_engine.proofs.engine.take_octets.Goals as goal

pub returns-in_err-end_line-clause-err : goal.returns-in_err-end_line-clause-err
returns-in_err-end_line-clause-err g c =
    let l = c.lines.invariant.moved in
    on_err c.from_residual.result (begins_line c.args.line.now.items c.args.octets.now l.0 c.lines.rest.now
    c.in-Some.last.now c.in-Some.after.now l.1 c.in-Some.ensures.0 l.2 c.in_err-end_line.ensures.err)

pub returns-in_err-keep-clause-err : goal.returns-in_err-keep-clause-err
returns-in_err-keep-clause-err g c =
    let l = c.lines.invariant.moved in
    on_err c.from_residual-in_err-keep.result
    (begins_rest c.args.line.now.items c.args.octets.now l.0 c.lines.rest.now l.1 l.2)

pub returns-clause-ok : goal.returns-clause-ok
returns-clause-ok g c =
    let l = c.lines.invariant.moved in
    moves_rest c.args.line.now.items c.args.octets.now l.0 c.lines.rest.now l.1 l.2 (c.in_ok-keep.ensures.moves _)

pub lines-init : goal.lines-init
lines-init g c = record {
  open_line = c.requires;
  mark = refl;
  moved = moves_start (g.W.DerWrite.state c.args.output.now).told c.args.line.now.items c.args.octets.now;
}

pub lines-preserved : goal.lines-preserved
lines-preserved g c =
    let l = c.lines.invariant.moved in
    record {
      open_line = c.in_ok-end_line.ensures.«open»;
      mark = c.in_ok-end_line.ensures.mark ∙ c.lines.invariant.mark;
      moved = moves_line c.args.line.now.items c.args.octets.now l.0 c.lines.rest.now c.in-Some.last.now
          c.in-Some.after.now l.1 c.in-Some.ensures.0 l.2 c.in_ok-end_line.ensures.ok;
    }

pub lines-smaller : goal.lines-smaller
lines-smaller g c = shorter c.lines.rest.now c.in-Some.last.now c.in-Some.after.now c.in-Some.ensures.0
