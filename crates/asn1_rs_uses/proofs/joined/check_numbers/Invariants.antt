use Rattle.std.proofs.Common.{◌≡◌, ℕ, List, map, Ok}
use Rattle.asn1_rs_uses.proofs.joined.check_numbers.Given as goal

abbrev pub invariant-loop-number : goal.invariant-loop-number
invariant-loop-number l = (numbers : List ℕ) × (l.yielded ≡ map Ok numbers)
