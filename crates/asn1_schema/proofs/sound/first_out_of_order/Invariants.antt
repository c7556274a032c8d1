use Rattle.std.proofs.Common.{◌≡◌, ◌+◌, length}
use Rattle.asn1_schema.specs.Sound.{in_order}
use Rattle.asn1_schema.proofs.sound.first_out_of_order.Given as goal

abbrev pub invariant-loop-node : goal.invariant-loop-node
invariant-loop-node l = record {
  same : in_order 0 l.table ≡ in_order l.of l.left;
  place : l.of + length l.left ≡ length l.table;
}

abbrev pub decreases-loop-node : goal.decreases-loop-node
decreases-loop-node l = length l.left
