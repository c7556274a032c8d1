use Rattle.std.proofs.Common.{◌≡◌, length}
use Rattle.asn1_schema.specs.Sound.{apart_from_next}
use Rattle.asn1_schema.proofs.sound.next_meeting.Given as goal

abbrev pub invariant-loop-field : goal.invariant-loop-field
invariant-loop-field l =
    apart_from_next l.every l.table l.unknown l.tags l.fields ≡ apart_from_next l.every l.table l.unknown l.tags l.left

abbrev pub decreases-loop-field : goal.decreases-loop-field
decreases-loop-field l = length l.left
