use Rattle.std.proofs.Common.{◌≡◌, drop}
use Rattle.asn1_schema.specs.Sound.{all_unambiguous}
use Rattle.asn1_schema.proofs.sound.first_not_told.Given as goal

abbrev pub invariant-loop-of : goal.invariant-loop-of
invariant-loop-of l = all_unambiguous l.table l.table ≡ all_unambiguous l.table (drop l.of l.table)
