use Rattle.asn1_engine.specs.Trees.{FirstStepFinds}
use Rattle.asn1_engine.proofs.trees.push_first_line.Goals as goal

pub returns : goal.returns
returns c =
    let shown = c.in_ok-push_found.ensures in
    let first : FirstStepFinds c.args.octets.now c.in_ok-found.found = (
      c.new-walk.result,
      c.step.new.self,
      c.new-walk.ensures.view,
      c.new-walk.ensures.offset,
      c.new-walk.ensures.frames,
      c.in_ok-found.ensures.finds,
    ) in
    (shown.0, (c.in_ok-found.found, first, shown.1), shown.2)
