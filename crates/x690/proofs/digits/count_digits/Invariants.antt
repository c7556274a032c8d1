use Rattle.std.proofs.Common.{◌≡◌, ◌+◌, length}
use Rattle.std.specs.Int.Digits.{digits_of}
use Rattle.x690.proofs.digits.count_digits.Given as goal

abbrev pub invariant-loop-left : goal.invariant-loop-left
invariant-loop-left g l = l.count + length (digits_of g.row.BASE l.left) ≡ length (digits_of g.row.BASE l.number)

abbrev pub decreases-loop-left : goal.decreases-loop-left
decreases-loop-left g l = l.left
