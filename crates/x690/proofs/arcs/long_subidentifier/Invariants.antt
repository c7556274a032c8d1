use Rattle.std.proofs.Common.{◌≡◌, ◌/◌, ◌%◌, ◌^◌, take}
use Rattle.x690.specs.Digits.{base_128_value}
use Rattle.x690.specs.Laws.Digits.{HaveBit8To}
use Rattle.x690.proofs.arcs.long_subidentifier.Given as goal

abbrev pub invariant-loop-i : goal.invariant-loop-i
invariant-loop-i l = record {
  low : l.low ≡ base_128_value (take l.i l.octets) % 2 ^ 64;
  front : l.front ≡ base_128_value (take l.i l.octets) / 128 % 2 ^ 64;
  high : HaveBit8To l.i l.octets;
}
