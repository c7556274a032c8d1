use Rattle.std.proofs.Common.{◌+◌, ◌*◌}
use Rattle.asn1_typed.proofs.normal.types.Printer.+normal.Given as goal

abbrev pub decreases-push_row : goal.decreases-push_row
decreases-push_row l = 5 * l.depth

abbrev pub decreases-push_type : goal.decreases-push_type
decreases-push_type l = 5 * l.depth + 1

abbrev pub decreases-push_list : goal.decreases-push_list
decreases-push_list l = 5 * l.depth + 2

abbrev pub decreases-push_fields : goal.decreases-push_fields
decreases-push_fields l = 5 * l.depth + 2

abbrev pub decreases-push_arms : goal.decreases-push_arms
decreases-push_arms l = 5 * l.depth + 2

abbrev pub decreases-push_bounded : goal.decreases-push_bounded
decreases-push_bounded l = 5 * l.depth + 3

abbrev pub decreases-push_parts : goal.decreases-push_parts
decreases-push_parts l = 5 * l.depth + 4

abbrev pub invariant-push_fields-loop-at : goal.invariant-push_fields-loop-at
invariant-push_fields-loop-at l = Unit {0}
