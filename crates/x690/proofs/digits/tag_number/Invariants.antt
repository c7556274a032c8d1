use Rattle.std.proofs.Common.{◌≡◌, ℕ, ◌<◌, ◌≤◌, ◌^◌, take, get_or}
use Rattle.x690.specs.Digits.{base_128_value}
use Rattle.x690.proofs.digits.tag_number.Given as goal

abbrev pub invariant-loop-i : goal.invariant-loop-i
invariant-loop-i l = record {
  number : l.number ≡ base_128_value (take l.i l.octets);
  few : l.i ≤ 5;
  small : l.number < 128 ^ l.i;
  high : (k : ℕ) → k < l.i → 128 ≤ get_or l.octets k 0;
}
