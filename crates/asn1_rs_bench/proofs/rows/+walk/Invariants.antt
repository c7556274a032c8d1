use Rattle.std.proofs.Common.{length}
use Rattle.asn1_rs_bench.proofs.rows.+walk.Given as goal

abbrev pub decreases-walk : goal.decreases-walk
decreases-walk g l = l.depth

abbrev pub decreases-loop-rest : goal.decreases-loop-rest
decreases-loop-rest g l = length l.rest
