use Rattle.std.proofs.Common.{◌≡◌, ◌++◌, drop}
use Rattle.asn1_schema.specs.Same.{all_bits_of}
use Rattle.asn1_schema.specs.Tape.{marks}
use Rattle.asn1_json.proofs.bits.joined_bits.Given as goal

abbrev pub invariant-loop-piece : goal.invariant-loop-piece
invariant-loop-piece l = l.bits.items ++ all_bits_of (marks (drop l.piece-index l.pieces)) ≡ all_bits_of (marks l.pieces)
