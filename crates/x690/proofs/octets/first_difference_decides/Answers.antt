use Rattle.x690.specs.Laws.Octets.Order.{first_difference_before, first_difference_not_after, front_before_or_same}
use Rattle.x690.proofs.octets.first_difference_decides.Goals as goal

pub returns-clause-before : goal.returns-clause-before
returns-clause-before c = first_difference_before

pub returns-clause-not_after : goal.returns-clause-not_after
returns-clause-not_after c = first_difference_not_after

pub returns-clause-beginning : goal.returns-clause-beginning
returns-clause-beginning c = front_before_or_same
