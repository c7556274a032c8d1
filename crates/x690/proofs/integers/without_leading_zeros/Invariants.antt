use Rattle.std.proofs.Common.{◌≡◌, length}
use Rattle.x690.specs.Digits.{base_256_value}
use Rattle.x690.proofs.integers.without_leading_zeros.Given as goal

abbrev pub invariant-loop-first : goal.invariant-loop-first
invariant-loop-first l = base_256_value l.rest ≡ base_256_value l.octets

abbrev pub decreases-loop-first : goal.decreases-loop-first
decreases-loop-first l = length l.rest
