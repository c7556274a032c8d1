use Rattle.std.proofs.Common.{◌≡◌, ℕ, List, ◌∷◌, ◌++◌, ap, sym, ◌∙◌}
use Rattle.x690.specs.Arcs.{arcs_text}
use Rattle.asn1_rs.specs.Oid.Arcs.{arcs_left}
use Rattle.asn1_rs.specs.Laws.Oid.Text.{arcs_pointed, pointed}
use Rattle.asn1_rs.proofs.asn1_types.oid.buffer.put_arcs.Goals as goal

pub loop-arc-init : goal.loop-arc-init
loop-arc-init c =
    let first = c.in-Some.first in
    let others = arcs_left c.next.new.self in
    let all : arcs_left c.args.arcs ≡ first ∷ others = c.in-Some.ensures.steps in
    let put = rw c.in_ok-end.was at c.put_arc.ensures in record {
      within = put.1;
      put = ap (λ (xs : List ℕ). xs ++ pointed others) put.2 ∙ sym (arcs_pointed first others)
          ∙ ap arcs_text (sym all);
    }
