use Rattle.std.proofs.Common.{◌≡◌, ◌+◌}
use Rattle.asn1_schema.specs.Tape.{KeptRow, marks, tapes_of, values_of}
use Rattle.asn1_schema.specs.Writing.{member_count, row_behind}
use Rattle.asn1_schema.proofs.put_rows.count_members.Given as goal

abbrev pub invariant-loop : goal.invariant-loop
invariant-loop l = record {
  counted : l.count ≡ l.counter;
  left : (kept : KeptRow) → marks l.fn.items ≡ tapes_of kept →
      (marks l.rest ≡ tapes_of (row_behind l.counter kept)) ×
      (member_count (values_of kept) ≡ l.counter + member_count (values_of (row_behind l.counter kept)));
}
