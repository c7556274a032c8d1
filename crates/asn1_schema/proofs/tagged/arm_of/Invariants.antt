use Rattle.std.proofs.Common.{ℕ, ◌≡◌, ◌<◌, Some, slice_get}
use Rattle.asn1_schema.specs.Reading.{id_of}
use Rattle.asn1_schema.specs.Sound.{HasTagAt}
use Rattle.asn1_schema.proofs.tagged.arm_of.Given as goal

abbrev pub invariant-loop-k : goal.invariant-loop-k
invariant-loop-k l = (j : ℕ) → j < l.k → (t : ℕ) → slice_get l.arms j ≡ Some t → HasTagAt l.nodes t (id_of l.head) → ⊥
