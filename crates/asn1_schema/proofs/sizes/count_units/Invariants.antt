use Rattle.std.proofs.Common.{◌≡◌, ◌+◌, ◌*◌, ◌^◌, ◌≤◌, drop}
use Rattle.asn1_schema.specs.Tape.{marks}
use Rattle.asn1_schema.specs.Sizes.{all_units}
use Rattle.asn1_schema.proofs.sizes.count_units.Given as goal

abbrev pub invariant-loop-piece : goal.invariant-loop-piece
invariant-loop-piece l = record {
  few : l.count ≤ 2 ^ 64 * l.piece-index;
  count : all_units (marks l.pieces) ≡ l.count + all_units (marks (drop l.piece-index l.pieces));
}
