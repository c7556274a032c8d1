use Rattle.asn1_walk.specs.Walks.{steps_left}
use Rattle.asn1_engine.specs.Findings.{GoesOver}
use Rattle.asn1_engine.proofs.elements.are_elements.Given as goal

-- what is to come is that of all octets
abbrev pub invariant-loop-walk : goal.invariant-loop-walk
invariant-loop-walk l = GoesOver l.octets l.walk

abbrev pub decreases-loop-walk : goal.decreases-loop-walk
decreases-loop-walk l = steps_left l.walk
