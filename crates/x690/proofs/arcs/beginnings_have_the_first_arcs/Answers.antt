use Rattle.std.proofs.Common.{List, ℕ, sym, subst}
use Rattle.x690.specs.Octets.{BeginsWith}
use Rattle.x690.specs.Arcs.{arcs_of}
use Rattle.x690.specs.Laws.Arcs.Beginnings.{arcs_begin}
use Rattle.x690.proofs.arcs.beginnings_have_the_first_arcs.Goals as goal

pub returns : goal.returns
returns c relative content front rest a e =
    subst (λ (octets : List ℕ). (more : List ℕ) × BeginsWith (arcs_of relative octets) (arcs_of relative front) more)
    (sym e) (arcs_begin relative front rest a)
