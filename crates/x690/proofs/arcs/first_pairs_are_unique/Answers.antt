use Rattle.x690.specs.Laws.Arcs.{first_pair_is, first_pair_back}
use Rattle.x690.proofs.arcs.first_pairs_are_unique.Goals as goal

pub returns-clause-exists : goal.returns-clause-exists
returns-clause-exists c = first_pair_is

pub returns-clause-no_other : goal.returns-clause-no_other
returns-clause-no_other c = first_pair_back
