use Rattle.std.proofs.Common.{◌≡◌, ℕ, List, ◌∷◌, ◌++◌, decimal, ap, sym, ◌∙◌, append_assoc, rules}
use Rattle.std.proofs.Output.{has_written_append}
use Rattle.x690.specs.Arcs.{arcs_text}
use Rattle.asn1_rs.specs.Oid.Arcs.{arcs_left}
use Rattle.asn1_rs.specs.Laws.Oid.Text.{arcs_pointed, pointed}
use Rattle.asn1_rs.proofs.asn1_types.oid.text.write_arcs.Goals as goal

pub loop-arc-init : goal.loop-arc-init
loop-arc-init g c = λ plain.
    let first = c.in-Some.first in
    let others = arcs_left c.next.new.self in
    let all : arcs_left c.args.arcs ≡ first ∷ others = c.in-Some.ensures.steps in
    (decimal first, c.write_arc.ensures plain (search rules), sym (arcs_pointed first others) ∙ ap arcs_text (sym all))

pub loop-arc-preserved : goal.loop-arc-preserved
loop-arc-preserved g c = λ plain.
    let arc = c.in-Some-next.arc in
    let steps : arcs_left c.loop-arc.others ≡ arc ∷ arcs_left c.next-in-loop-arc.new.self =
    c.in-Some-next.ensures.steps in
    let so_far = c.loop-arc.invariant plain in (
      so_far.0 ++ 46 ∷ decimal arc,
      has_written_append _ _ _ _ _ _ so_far.1 (c.write_pointed.ensures so_far.1.plain (search rules)),
      append_assoc so_far.0 _ _ ∙ ap (λ (t : List ℕ). so_far.0 ++ t) (sym (ap pointed steps)) ∙ so_far.2,
    )
