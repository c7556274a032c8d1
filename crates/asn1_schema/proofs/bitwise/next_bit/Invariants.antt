use Rattle.std.proofs.Common.{◌≡◌, ◌≤◌, length}
use Rattle.asn1_schema.specs.Same.{bits_left}
use Rattle.asn1_schema.proofs.bitwise.next_bit.Given as goal

abbrev pub invariant-loop-found : goal.invariant-loop-found
invariant-loop-found l = record {
  skip : l.left.skip ≤ 7;
  same : bits_left l.left ≡ bits_left l.fn.source;
}

abbrev pub decreases-loop-found : goal.decreases-loop-found
decreases-loop-found l = length l.left.others.now
