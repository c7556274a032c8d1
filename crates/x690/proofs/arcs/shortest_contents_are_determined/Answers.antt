use Rattle.std.proofs.Common.{sym}
use Rattle.x690.specs.Laws.Arcs.{arcs_made, one_shortest, fewest_octets}
use Rattle.x690.proofs.arcs.shortest_contents_are_determined.Goals as goal

pub returns-clause-octets : goal.returns-clause-octets
returns-clause-octets c relative content s = sym (arcs_made relative content s)

pub returns-clause-no_other : goal.returns-clause-no_other
returns-clause-no_other c = one_shortest

pub returns-clause-fewest : goal.returns-clause-fewest
returns-clause-fewest c = fewest_octets
