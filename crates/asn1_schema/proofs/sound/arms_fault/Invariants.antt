use Rattle.std.proofs.Common.{◌≡◌, length}
use Rattle.asn1_schema.specs.Sound.{arms_unambiguous}
use Rattle.asn1_schema.proofs.sound.arms_fault.Given as goal

abbrev pub invariant-loop-arm : goal.invariant-loop-arm
invariant-loop-arm l = arms_unambiguous l.table l.arms ≡ arms_unambiguous l.table l.left

abbrev pub decreases-loop-arm : goal.decreases-loop-arm
decreases-loop-arm l = length l.left
