use Rattle.std.proofs.Common.{◌≡◌, ◌≤◌, length}
use Rattle.asn1_schema.specs.Same.{bits_left}
use Rattle.asn1_schema.proofs.alike.same_bits.Given as goal

abbrev pub invariant-loop-bit : goal.invariant-loop-bit
invariant-loop-bit l = record {
  left : l.left.skip ≤ 7;
  right : l.right.skip ≤ 7;
  yes : bits_left l.left ≡ bits_left l.right → bits_left l.fn.left ≡ bits_left l.fn.right;
  no : bits_left l.fn.left ≡ bits_left l.fn.right → bits_left l.left ≡ bits_left l.right;
}

abbrev pub decreases-loop-bit : goal.decreases-loop-bit
decreases-loop-bit l = length (bits_left l.left)
