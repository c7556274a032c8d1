use Rattle.std.proofs.Common.{length}
use Rattle.asn1_rs_bench.proofs.rows.read_row.Given as goal

abbrev pub decreases-loop-rest : goal.decreases-loop-rest
decreases-loop-rest g l = length l.rest
