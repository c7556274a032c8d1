use Rattle.std.proofs.Common.{◌+◌, ◌*◌}
use Rattle.asn1_module.proofs.places.Places.+places.Given as goal

abbrev pub decreases-place : goal.decreases-place
decreases-place l = 3 * l.depth

abbrev pub decreases-make_choice : goal.decreases-make_choice
decreases-make_choice l = 3 * l.depth + 1

abbrev pub decreases-make : goal.decreases-make
decreases-make l = 3 * l.depth + 2
