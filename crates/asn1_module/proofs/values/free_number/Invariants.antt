use Rattle.std.proofs.Common.{length}
use Rattle.asn1_module.proofs.values.free_number.Given as goal

abbrev pub decreases-loop-first : goal.decreases-loop-first
decreases-loop-first l = length l.left
