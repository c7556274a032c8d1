use Rattle.std.proofs.Common.{◌≤◌, length}
use Rattle.asn1_module.proofs.tokens.behind_line.Given as goal

abbrev pub invariant-loop-first : goal.invariant-loop-first
invariant-loop-first l = length l.rest ≤ length l.octets

abbrev pub decreases-loop-first : goal.decreases-loop-first
decreases-loop-first l = length l.rest
