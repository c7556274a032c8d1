use Rattle.std.proofs.Common.{◌≡◌, ◌++◌, drop}
use Rattle.asn1_schema.specs.Joined.{all_octets}
use Rattle.asn1_schema.specs.Tape.{marks}
use Rattle.asn1_json.proofs.leaves.joined_octets.Given as goal

abbrev pub invariant-loop-piece : goal.invariant-loop-piece
invariant-loop-piece l = l.octets.items ++ all_octets (marks (drop l.piece-index l.pieces)) ≡ all_octets (marks l.pieces)
