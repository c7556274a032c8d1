use Rattle.x690.specs.Laws.Arcs.{arcs_octets_shortest, subidentifiers_back, absolute_back}
use Rattle.x690.proofs.arcs.arcs_come_back.Goals as goal

pub returns-clause-relative : goal.returns-clause-relative
returns-clause-relative c = subidentifiers_back

pub returns-clause-absolute : goal.returns-clause-absolute
returns-clause-absolute c = absolute_back

pub returns-clause-shortest : goal.returns-clause-shortest
returns-clause-shortest c = arcs_octets_shortest
