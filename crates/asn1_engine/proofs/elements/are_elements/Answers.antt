use Rattle.std.proofs.Common.{[], subst}
use Rattle.asn1_walk.specs.Rows.{ended, refused}
use Rattle.asn1_walk.specs.Walks.{Moves}
use Rattle.asn1_walk.specs.declared.walk.Step.{Step}
use Rattle.asn1_walk.proofs.Coming.{begun}
use Rattle.asn1_walk.proofs.OneRow.{ends_or_breaks}
use Rattle.asn1_engine.proofs.elements.are_elements.Goals as goal

pub loop-walk-init : goal.loop-walk-init
loop-walk-init c = λ lines outcome g. (
  lines,
  begun _ _ _ _ c.new-walk.ensures.frames
      c.new-walk.ensures.offset c.new-walk.ensures.view lines outcome g,
)

pub returns-in-End : goal.returns-in-End
returns-in-End c =
    let at = c.loop-walk.walk.offset in
    let m = subst (λ (s : Step). Moves s c.loop-walk.walk c.step.new.self) c.in-End.is c.in_ok-step.ensures.moves in
    let all = c.loop-walk.invariant [] (ended at []) m in (all.0, at, all.1)

pub returns-in-Refused : goal.returns-in-Refused
returns-in-Refused c =
    let at = c.loop-walk.walk.offset in
    let m = subst (λ (s : Step). Moves s c.loop-walk.walk c.step.new.self) c.in-Refused.is c.in_ok-step.ensures.moves in
    let all = c.loop-walk.invariant [] (refused at m.0) m.2 in (
      (all.0, at, m.0, all.1),
      λ elements. ends_or_breaks c.args.octets.now elements.0 all.0 elements.1 at [] m.0 elements.2 all.1,
    )
