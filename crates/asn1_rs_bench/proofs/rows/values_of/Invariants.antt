use Rattle.std.proofs.Common.{length}
use Rattle.asn1_rs_bench.proofs.rows.values_of.Given as goal

abbrev pub decreases-loop-rest : goal.decreases-loop-rest
decreases-loop-rest g l = length l.rest
