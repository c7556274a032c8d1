use Rattle.std.proofs.Common.{◌≡◌, ◌+◌, ◌≤◌, drop}
use Rattle.asn1_schema.specs.Tape.{marks}
use Rattle.asn1_schema.specs.Counting.{values_from}
use Rattle.asn1_schema.proofs.counting.count_values.Given as goal

abbrev pub invariant-loop-item : goal.invariant-loop-item
invariant-loop-item l = record {
  values : l.counted.values ≤ l.item-index;
  arms : l.counted.arms ≤ l.item-index;
  same : values_from 0 0 (marks l.items) ≡
      l.counted.values + values_from l.counted.arms l.counted.within (marks (drop l.item-index l.items));
}
