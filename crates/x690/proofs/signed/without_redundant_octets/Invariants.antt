use Rattle.std.proofs.Common.{◌≡◌, length}
use Rattle.x690.specs.Digits.{twos_complement_value}
use Rattle.x690.proofs.signed.without_redundant_octets.Given as goal

abbrev pub invariant-loop-rest : goal.invariant-loop-rest
invariant-loop-rest l = twos_complement_value l.rest ≡ twos_complement_value l.octets

abbrev pub decreases-loop-rest : goal.decreases-loop-rest
decreases-loop-rest l = length l.rest
