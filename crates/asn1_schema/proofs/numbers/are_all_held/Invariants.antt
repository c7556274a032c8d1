use Rattle.std.proofs.Common.{ℕ, ◌<◌, pos, get_or}
use Rattle.x690.specs.Signed.{IsSigned}
use Rattle.asn1_schema.proofs.numbers.are_all_held.Given as goal

-- those before are held
abbrev pub invariant-loop-number : goal.invariant-loop-number
invariant-loop-number l = (k : ℕ) → k < l.number-index → IsSigned 16 (get_or l.numbers k (pos 0))
