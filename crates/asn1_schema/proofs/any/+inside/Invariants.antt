use Rattle.std.proofs.Common.{ℕ, ◌≤◌, ◌+◌, ◌*◌, length}
use Rattle.asn1_schema.proofs.AnyParts.{AreStrict}
use Rattle.asn1_schema.proofs.any.+inside.Given as goal

abbrev pub decreases-judge_inside : goal.decreases-judge_inside
decreases-judge_inside l = 2 * l.depth

abbrev pub decreases-judge_elements : goal.decreases-judge_elements
decreases-judge_elements l = 2 * l.depth + 1

abbrev pub invariant-judge_elements-loop-rest : goal.invariant-judge_elements-loop-rest
invariant-judge_elements-loop-rest l = record {
  up : (d : ℕ) → l.depth ≤ d → AreStrict d l.rest → AreStrict d l.octets;
  down : (d : ℕ) → l.depth ≤ d → AreStrict d l.octets → AreStrict d l.rest;
}

abbrev pub decreases-judge_elements-loop-rest : goal.decreases-judge_elements-loop-rest
decreases-judge_elements-loop-rest l = length l.rest
