use Rattle.std.proofs.Common.{◌≤◌, length}
use Rattle.asn1_module.proofs.tokens.behind_blanks.Given as goal

abbrev pub invariant-loop-tail : goal.invariant-loop-tail
invariant-loop-tail l = length l.rest ≤ length l.octets

abbrev pub decreases-loop-tail : goal.decreases-loop-tail
decreases-loop-tail l = length l.rest
