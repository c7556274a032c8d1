use Rattle.std.proofs.Common.{◌≡◌, ◌≤◌, ◌+◌, ◌++◌, length, map, drop}
use Rattle.std.specs.Int.Digits.{digits_of}
use Rattle.x690.proofs.digits.write_digits.Given as goal

abbrev pub invariant-loop-place : goal.invariant-loop-place
invariant-loop-place g l = record {
  within : l.place ≤ length l.out;
  places : l.place ≡ length (digits_of g.row.BASE l.left);
  written : map (λ digit. l.offset + digit) (digits_of g.row.BASE l.left) ++ drop l.place l.out ≡
      map (λ digit. l.offset + digit) (digits_of g.row.BASE l.number);
}

abbrev pub decreases-loop-place : goal.decreases-loop-place
decreases-loop-place g l = l.place
