use Rattle.std.proofs.Common.{sym, ◌∙◌}
use Rattle.x690.specs.Laws.Identifiers.{identifier_unique}
use Rattle.x690.proofs.identifiers.identifiers_unique.Goals as goal

pub returns-clause-unique : goal.returns-clause-unique
returns-clause-unique c =
    λ input front other rest tail id jd i s j t. identifier_unique front other rest tail id jd i j (sym s ∙ t)
