use Rattle.std.proofs.Common.{◌*◌, ◌+◌}
use Rattle.asn1_typed.proofs.kinds.+kinds.Given as goal

abbrev pub decreases-push_type : goal.decreases-push_type
decreases-push_type a = 3 * a.depth

abbrev pub decreases-push_named : goal.decreases-push_named
decreases-push_named a = 3 * a.depth + 1

abbrev pub decreases-push_inner : goal.decreases-push_inner
decreases-push_inner a = 3 * a.depth + 2
