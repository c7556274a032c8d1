use Rattle.std.proofs.Common.{◌+◌, ◌*◌}
use Rattle.asn1_module.proofs.reader.Reader.+types.Given as goal

abbrev pub decreases-read_type : goal.decreases-read_type
decreases-read_type l = 5 * l.depth

abbrev pub decreases-read_tagged : goal.decreases-read_tagged
decreases-read_tagged l = 5 * l.depth + 1

abbrev pub decreases-read_list : goal.decreases-read_list
decreases-read_list l = 5 * l.depth + 1

abbrev pub decreases-read_component : goal.decreases-read_component
decreases-read_component l = 5 * l.depth + 1

abbrev pub decreases-read_item : goal.decreases-read_item
decreases-read_item l = 5 * l.depth + 2

abbrev pub decreases-read_components : goal.decreases-read_components
decreases-read_components l = 5 * l.depth + 3

abbrev pub decreases-read_untagged : goal.decreases-read_untagged
decreases-read_untagged l = 5 * l.depth + 4
