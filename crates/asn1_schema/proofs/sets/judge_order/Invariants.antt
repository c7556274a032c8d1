use Rattle.std.proofs.Common.{length}
use Rattle.asn1_schema.proofs.TakenSets.{OrderSoFar}
use Rattle.asn1_schema.proofs.sets.judge_order.Given as goal

abbrev pub invariant-loop-rest : goal.invariant-loop-rest
invariant-loop-rest l = OrderSoFar l.coding l.octets l.last l.rest

abbrev pub decreases-loop-rest : goal.decreases-loop-rest
decreases-loop-rest l = length l.rest
