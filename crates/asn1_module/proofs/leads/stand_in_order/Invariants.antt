use Rattle.std.proofs.Common.{◌≡◌, ◌+◌, length}
use Rattle.asn1_schema.specs.Sound.{in_order}
use Rattle.asn1_module.specs.Leads.{added_in_order}
use Rattle.asn1_module.proofs.leads.stand_in_order.Given as goal

-- what is left is in order just where all is
abbrev pub invariant-loop-node : goal.invariant-loop-node
invariant-loop-node l = record {
  same : added_in_order l.count l.nodes ≡ in_order l.of l.left;
  place : l.of + length l.left ≡ length l.nodes;
}

abbrev pub decreases-loop-node : goal.decreases-loop-node
decreases-loop-node l = length l.left
