use Rattle.std.proofs.Common.{◌≡◌, ◌++◌, List, ℕ, length}
use Rattle.std.specs.Char.{is_ascii_digit}
use Rattle.x690.specs.Sets.{AllIn}
use Rattle.asn1_schema.specs.Joined.{said}
use Rattle.asn1_schema.proofs.moments.behind_digits.Given as goal

abbrev pub invariant-loop-octet : goal.invariant-loop-octet
invariant-loop-octet l = (ds : List ℕ) × AllIn is_ascii_digit ds × (said l.fn.text ≡ ds ++ said l.rest)

abbrev pub decreases-loop-octet : goal.decreases-loop-octet
decreases-loop-octet l = length (said l.rest)
