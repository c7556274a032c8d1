use Rattle.std.proofs.Common.{[], ◌≡◌, ◌≢◌, length}
use Rattle.x690.specs.Digits.{twos_complement_value}
use Rattle.asn1_schema.proofs.put_leaves.shortest_integer.Given as goal

abbrev pub invariant-loop-others : goal.invariant-loop-others
invariant-loop-others l = record {
  some : l.rest ≢ [];
  same : twos_complement_value l.rest ≡ twos_complement_value l.octets;
}

abbrev pub decreases-loop-others : goal.decreases-loop-others
decreases-loop-others l = length l.rest
