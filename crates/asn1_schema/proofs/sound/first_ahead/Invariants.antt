use Rattle.std.proofs.Common.{◌≡◌, drop}
use Rattle.asn1_schema.specs.Sound.{all_before}
use Rattle.asn1_schema.proofs.sound.first_ahead.Given as goal

abbrev pub invariant-loop-place : goal.invariant-loop-place
invariant-loop-place l = all_before l.of l.places ≡ all_before l.of (drop l.place-index l.places)
