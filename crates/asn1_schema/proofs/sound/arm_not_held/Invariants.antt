use Rattle.std.proofs.Common.{◌≡◌, drop}
use Rattle.asn1_schema.specs.Sound.{arms_included}
use Rattle.asn1_schema.proofs.sound.arm_not_held.Given as goal

abbrev pub invariant-loop-place : goal.invariant-loop-place
invariant-loop-place l = arms_included l.table l.tags l.arms ≡ arms_included l.table l.tags (drop l.place l.arms)
