use Rattle.std.proofs.Common.{◌+◌, ◌*◌, length}
use Rattle.asn1_rs_profiles.proofs.Joining.{AreAppended}
use Rattle.asn1_rs_profiles.proofs.joined.pieces.+pieces.Given as goal

abbrev pub decreases-push_piece : goal.decreases-push_piece
decreases-push_piece l = 2 * l.depth

abbrev pub decreases-push_pieces : goal.decreases-push_pieces
decreases-push_pieces l = 2 * l.depth + 1

abbrev pub invariant-push_pieces-loop-rest : goal.invariant-push_pieces-loop-rest
invariant-push_pieces-loop-rest l = AreAppended l.depth l.content l.rest l.initial.joined.items l.joined.items

abbrev pub decreases-push_pieces-loop-rest : goal.decreases-push_pieces-loop-rest
decreases-push_pieces-loop-rest l = length l.rest
