use Rattle.std.proofs.Common.{◌≡◌, take}
use Rattle.x690.specs.Digits.{base_256_value}
use Rattle.x690.proofs.integers.word_number.Given as goal

abbrev pub invariant-loop-octet : goal.invariant-loop-octet
invariant-loop-octet l = l.number ≡ base_256_value (take l.octet-index l.digits)
