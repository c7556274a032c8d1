use Rattle.std.proofs.Common.{◌≡◌, drop}
use Rattle.asn1_schema.specs.Sound.{apart_from_arms}
use Rattle.asn1_schema.proofs.sound.arm_meeting.Given as goal

abbrev pub invariant-loop-place : goal.invariant-loop-place
invariant-loop-place l =
    apart_from_arms l.table l.tags l.arms ≡ apart_from_arms l.table l.tags (drop l.place l.arms)
