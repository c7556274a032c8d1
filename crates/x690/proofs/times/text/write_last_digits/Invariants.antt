use Rattle.std.proofs.Common.{◌≡◌, ◌≤◌, ◌++◌, length, drop}
use Rattle.x690.specs.Times.{digits}
use Rattle.x690.proofs.times.text.write_last_digits.Given as goal

abbrev pub invariant-loop-place : goal.invariant-loop-place
invariant-loop-place l = record {
  within : l.place ≤ length l.out;
  written : digits l.place l.left ++ drop l.place l.out ≡ digits (length l.fn.out) l.fn.number;
}

abbrev pub decreases-loop-place : goal.decreases-loop-place
decreases-loop-place l = l.place
