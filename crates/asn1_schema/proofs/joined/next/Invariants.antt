use Rattle.std.proofs.Common.{length, ◌-◌, ◌≡◌, ◌≤◌, drop}
use Rattle.asn1_schema.specs.Tape.{marks}
use Rattle.asn1_schema.specs.Joined.{all_octets}
use Rattle.asn1_schema.proofs.joined.next.Given as goal

abbrev pub invariant-loop-place : goal.invariant-loop-place
invariant-loop-place l = record {
  within : l.place ≤ length l.pieces;
  same : all_octets (marks l.pieces) ≡ all_octets (marks (drop l.place l.pieces));
}

abbrev pub decreases-loop-place : goal.decreases-loop-place
decreases-loop-place l = length l.pieces - l.place
