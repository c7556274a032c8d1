use Rattle.std.proofs.Common.{ℕ, ◌^◌, ◌<◌, ◌≤◌, length, arith}
use Rattle.std.proofs.Math.Nat.{pow-le-pow_left}
use Rattle.std.specs.Int.Digits.{digits_of}
use Rattle.std.proofs.lemmas.Int.Digits.{length-digits_of_step, length-digits_of-le}
use Rattle.x690.proofs.digits.count_digits.Goals as goal

few : (base number : ℕ) → 2 ≤ base → number < 2 ^ 64 → length (digits_of base number) ≤ 64
few base number two small =
    let p : 2 ^ 64 ≤ base ^ 64 = pow-le-pow_left two 64 in
    let q : number < base ^ 64 = omega arith in
    length-digits_of-le base 64 number two q

pub overflow_add-count : goal.overflow_add-count
overflow_add-count g c = omega (
  arith,
  c.loop-left.invariant,
  length-digits_of_step g.row.BASE c.loop-left.left (omega arith) (omega arith),
  few g.row.BASE c.args.number (omega arith) (omega arith),
)

pub loop-left-preserved : goal.loop-left-preserved
loop-left-preserved g c =
    omega (arith, c.loop-left.invariant, length-digits_of_step g.row.BASE c.loop-left.left (omega arith) (omega arith))
