use Rattle.std.proofs.Common.{◌+◌, ◌*◌}
use Rattle.asn1_module.proofs.components.Rows.+rows.Given as goal

abbrev pub decreases-make : goal.decreases-make
decreases-make l = 3 * l.depth

abbrev pub decreases-insert : goal.decreases-insert
decreases-insert l = 3 * l.depth + 1

abbrev pub decreases-standing : goal.decreases-standing
decreases-standing l = 3 * l.depth + 2
