use Rattle.std.proofs.Common.{◌≡◌, ◌≤◌, ◌+◌, ◌-◌, ◌^◌, min, drop}
use Rattle.asn1_schema.specs.Tape.{marks}
use Rattle.asn1_schema.specs.Sizes.{all_bits}
use Rattle.asn1_schema.proofs.sizes.count_bits.Given as goal

abbrev pub invariant-loop-piece : goal.invariant-loop-piece
invariant-loop-piece l = record {
  few : l.count ≤ 2 ^ 128 - 1;
  count : min (all_bits (marks l.pieces)) (2 ^ 128 - 1)
      ≡ min (l.count + all_bits (marks (drop l.piece-index l.pieces))) (2 ^ 128 - 1);
}
