use Rattle.std.proofs.Common.{sym, ◌∙◌}
use Rattle.x690.specs.Laws.Lengths.{length_form_unique}
use Rattle.x690.proofs.lengths.lengths_unique.Goals as goal

pub returns-clause-unique : goal.returns-clause-unique
returns-clause-unique c =
    λ input front other rest tail f g i s j t. length_form_unique front other rest tail f g i j (sym s ∙ t)
