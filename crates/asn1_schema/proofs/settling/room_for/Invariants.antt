use Rattle.std.proofs.Common.{◌≡◌, ◌+◌, ◌≤◌, List, length}
use Rattle.x690.specs.Elements.{Parts, IsDerElement}
use Rattle.x690.specs.Joined.{IsConcatenation}
use Rattle.asn1_schema.specs.Reading.{id_of}
use Rattle.asn1_schema.proofs.Settled.{RoomSoFar}
use Rattle.asn1_schema.proofs.settling.room_for.Given as goal

abbrev pub invariant-loop-tail : goal.invariant-loop-tail
invariant-loop-tail l = record {
  within : length l.left ≤ length l.others;
  so_far : (e : Parts) (es : List Parts) → e.id ≡ id_of l.head → IsConcatenation IsDerElement l.others es →
      RoomSoFar e es l.others l.left;
}

abbrev pub decreases-loop-tail : goal.decreases-loop-tail
decreases-loop-tail l = length l.left
