use Rattle.std.proofs.Common.{◌∙◌, ◌≡◌, ℕ, ◌<◌, List, length, ◌++◌, arith, take, true, false, subst}
use Rattle.std.proofs.lemmas.Result.{on_ok_weaker, on_err_weaker}
use Rattle.asn1vec_engine.specs.Engine.{AnswersTo, BeginsAnswersTo}
use Rattle.asn1vec_engine.proofs.Appended.{on_err}
use Rattle.asn1vec_engine.proofs.Moved.{moves_both, moves_more, moves_zero, moves_begins, begins_moved, consumes_both}
use Rattle.asn1vec_engine.proofs.Moved.{answered_input, begun_input}
use Rattle.asn1vec_engine.proofs.engine.run.Goals as goal

pub returns-in-Ok-eq0-clause-ok : goal.returns-in-Ok-eq0-clause-ok
returns-in-Ok-eq0-clause-ok g c =
    let so_far = c.loop.invariant.so_far in
    let h = c.in-Ok-eq0.ensures.bytes in
    let zero : c.in-Ok-eq0.field-0 ≡ 0 = omega arith in
    let room : 0 < length c.read.new.buf = omega arith in
    on_ok_weaker c.finish.result (λ f.
    answered_input true _ _ _ _ _ _ c.loop.line.items f.0 (consumes_both _ _ _ _ _ so_far.1 h.0) (h.1 zero room)
    (moves_zero so_far.0 _ c.read.new.buf zero so_far.2)
    (subst (λ (l : List ℕ). AnswersTo l f.0) c.as_slice.ensures.value f.1) f.2) c.finish.ensures.ok

pub returns-in-Ok-eq0-clause-err : goal.returns-in-Ok-eq0-clause-err
returns-in-Ok-eq0-clause-err g c =
    let so_far = c.loop.invariant.so_far in
    let h = c.in-Ok-eq0.ensures.bytes in
    let zero : c.in-Ok-eq0.field-0 ≡ 0 = omega arith in
    let room : 0 < length c.read.new.buf = omega arith in
    on_err_weaker c.finish.result (λ f.
    answered_input false _ _ _ _ _ _ c.loop.line.items f.0 (consumes_both _ _ _ _ _ so_far.1 h.0) (h.1 zero room)
    (moves_zero so_far.0 _ c.read.new.buf zero so_far.2)
    (subst (λ (l : List ℕ). BeginsAnswersTo l f.0) c.as_slice.ensures.value f.1) f.2) c.finish.ensures.err

pub returns-in_err-take_octets-in-Ok-clause-err : goal.returns-in_err-take_octets-in-Ok-clause-err
returns-in_err-take_octets-in-Ok-clause-err g c =
    let so_far = c.loop.invariant.so_far in
    let h = c.in-Ok.ensures.bytes in
    let t = c.in_err-take_octets-in-Ok.ensures.err in
    on_err c.from_residual.result (begun_input _ _ _ _ _ (consumes_both _ _ _ _ _ so_far.1 h.0)
    (moves_begins (moves_more (take c.in-Ok.n c.read.new.buf) so_far.2) t))

pub returns-in-Err-clause-err : goal.returns-in-Err-clause-err
returns-in-Err-clause-err g c =
    let so_far = c.loop.invariant.so_far in
    begun_input _ _ _ _ so_far.0 so_far.1 (begins_moved so_far.2)

pub loop-preserved : goal.loop-preserved
loop-preserved g c =
    let so_far = c.loop.invariant.so_far in
    let h = c.in-Ok.ensures.bytes in
    let t = c.in_ok-take_octets-in-Ok.ensures in
    record {
      open_line = t.«open»;
      mark = t.mark ∙ c.loop.invariant.mark;
      so_far = (
        so_far.0 ++ take c.in-Ok.n c.read.new.buf,
        consumes_both _ _ _ _ _ so_far.1 h.0,
        moves_both (moves_more (take c.in-Ok.n c.read.new.buf) so_far.2) t.ok,
      );
    }

pub returns-clause-err : goal.returns-clause-err
returns-clause-err g c =
    let so_far = c.loop.invariant.so_far in
    begun_input _ _ _ _ so_far.0 so_far.1 (begins_moved so_far.2)
