use Rattle.std.proofs.Common.{◌≡◌, take}
use Rattle.x690.specs.Digits.{base_128_value}
use Rattle.x690.proofs.arcs.is_below.Given as goal

abbrev pub invariant-loop-octet : goal.invariant-loop-octet
invariant-loop-octet l = l.number ≡ base_128_value (take l.octet-index l.octets)
