use Rattle.std.proofs.Common.{ℕ, ◌≤◌, ◌+◌, ◌*◌, length}
use Rattle.asn1_schema.specs.Pieces.{string_of, ArePieces}
use Rattle.asn1_schema.proofs.TakenPieces.{PiecesSoFar}
use Rattle.asn1_schema.proofs.pieces.+pieces.Given as goal

abbrev pub decreases-read_piece : goal.decreases-read_piece
decreases-read_piece l = 2 * l.depth

abbrev pub decreases-read_pieces : goal.decreases-read_pieces
decreases-read_pieces l = 2 * l.depth + 1

abbrev pub invariant-read_pieces-loop-rest : goal.invariant-read_pieces-loop-rest
invariant-read_pieces-loop-rest l = (d : ℕ) → l.depth ≤ d →
    PiecesSoFar l.coding l.sort (ArePieces l.coding (string_of l.coding l.sort) d l.rest)
    (ArePieces l.coding (string_of l.coding l.sort) d l.content) l.rest l.whole l.initial.tape.items l.tape.items

abbrev pub decreases-read_pieces-loop-rest : goal.decreases-read_pieces-loop-rest
decreases-read_pieces-loop-rest l = length l.rest
