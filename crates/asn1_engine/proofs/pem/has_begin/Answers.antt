use Rattle.std.proofs.Common.{refl, sym, ◌∙◌, arith}
use Rattle.asn1_engine.specs.Pem.{begins, further}
use Rattle.asn1_engine.proofs.Blocks.{begin_behind, found_label, found_none}
use Rattle.asn1_engine.proofs.pem.has_begin.Goals as goal

pub returns-then-is_some : goal.returns-then-is_some
returns-then-is_some c =
    let label = found_label c.in-Some.line.now c.begin_label.result c.begin_label.ensures
    (sym c.is_some.ensures ∙ c.if-is_some.true) in (
      λ _. c.loop-line.invariant.0.1 (begins c.loop-line.lines.rest.now c.in-Some.line.now c.next_line.new.self.rest.now
          label.0 c.in-Some.ensures.some label.1),
      λ _. refl,
    )

pub loop-line-preserved : goal.loop-line-preserved
loop-line-preserved c =
    let rest = c.loop-line.lines.rest.now in
    let line = c.in-Some.line.now in
    let more = c.next_line.new.self.rest.now in
    let has = c.loop-line.invariant.0 in
    let none = found_none line c.begin_label.result c.begin_label.ensures (sym c.is_some.ensures ∙ c.if-is_some.false) in (
      (
        λ h. begin_behind rest line more c.in-Some.ensures.some none (has.0 h),
        λ h. has.1 (further rest line more c.in-Some.ensures.some h),
      ),
      omega (arith, c.in-Some.ensures.counted, c.in-Some.ensures.fewer),
    )
