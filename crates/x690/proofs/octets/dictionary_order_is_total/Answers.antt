use Rattle.x690.specs.Laws.Octets.Order.{before_or_same_total, before_or_same_antisymmetric, before_or_same_transitive}
use Rattle.x690.proofs.octets.dictionary_order_is_total.Goals as goal

pub returns-clause-total : goal.returns-clause-total
returns-clause-total c = before_or_same_total

pub returns-clause-antisymmetric : goal.returns-clause-antisymmetric
returns-clause-antisymmetric c = before_or_same_antisymmetric

pub returns-clause-transitive : goal.returns-clause-transitive
returns-clause-transitive c = before_or_same_transitive
