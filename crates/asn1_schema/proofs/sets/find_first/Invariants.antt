use Rattle.std.proofs.Common.{length, List}
use Rattle.x690.specs.Elements.{Parts}
use Rattle.asn1_schema.specs.Members.{AreElements}
use Rattle.asn1_schema.proofs.TakenSets.{FirstSoFar}
use Rattle.asn1_schema.proofs.sets.find_first.Given as goal

abbrev pub invariant-loop-tail : goal.invariant-loop-tail
invariant-loop-tail l = (es : List Parts) → AreElements l.coding l.octets es → FirstSoFar l.coding l.nodes l.of l.rest es

abbrev pub decreases-loop-tail : goal.decreases-loop-tail
decreases-loop-tail l = length l.rest
