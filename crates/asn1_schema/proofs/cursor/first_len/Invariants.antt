use Rattle.std.proofs.Common.{◌≡◌, ◌+◌, ◌*◌, drop}
use Rattle.asn1_schema.specs.Tape.{marks}
use Rattle.asn1_schema.specs.Cursor.{marks_of_first}
use Rattle.asn1_schema.proofs.cursor.first_len.Given as goal

abbrev pub invariant-loop-item : goal.invariant-loop-item
invariant-loop-item l = record {
  count : l.arms ≡ l.item-index;
  same : marks_of_first (marks l.items) ≡ 2 * l.arms + marks_of_first (marks (drop l.item-index l.items));
}
