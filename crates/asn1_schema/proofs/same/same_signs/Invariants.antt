use Rattle.std.proofs.Common.{◌≡◌, length}
use Rattle.asn1_schema.specs.Tape.{marks}
use Rattle.asn1_schema.specs.Same.{signs_from}
use Rattle.asn1_schema.proofs.same.same_signs.Given as goal

abbrev pub invariant-loop-sign : goal.invariant-loop-sign
invariant-loop-sign l = record {
  yes : signs_from 0 (marks l.one.items.now) ≡ signs_from 0 (marks l.other.items.now) →
      signs_from 0 (marks l.left) ≡ signs_from 0 (marks l.right);
  no : signs_from 0 (marks l.left) ≡ signs_from 0 (marks l.right) →
      signs_from 0 (marks l.one.items.now) ≡ signs_from 0 (marks l.other.items.now);
}

abbrev pub decreases-loop-sign : goal.decreases-loop-sign
decreases-loop-sign l = length l.one.items.now
