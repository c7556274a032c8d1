use Rattle.std.proofs.Common.{◌≡◌, length}
use Rattle.asn1_schema.specs.Sound.{fields_unambiguous}
use Rattle.asn1_schema.proofs.sound.fields_fault.Given as goal

abbrev pub invariant-loop-field : goal.invariant-loop-field
invariant-loop-field l =
    fields_unambiguous l.every l.table l.unknown l.fields ≡ fields_unambiguous l.every l.table l.unknown l.left

abbrev pub decreases-loop-field : goal.decreases-loop-field
decreases-loop-field l = length l.left
