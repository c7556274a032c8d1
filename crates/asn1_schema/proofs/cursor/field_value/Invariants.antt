use Rattle.std.proofs.Common.{ℕ, ◌≡◌, ◌+◌, ◌≤◌, length, drop}
use Rattle.asn1_schema.specs.Tape.{KeptRow, marks, tapes_of}
use Rattle.asn1_schema.specs.Cursor.{field_marks}
use Rattle.asn1_schema.proofs.cursor.field_value.Given as goal

-- what is left are the fields from a place on
abbrev pub invariant-loop : goal.invariant-loop
invariant-loop l = record {
  within : l.start ≤ length l.fields;
  left : (kept : KeptRow) → marks l.fields ≡ tapes_of kept → (ks : KeptRow) ×
      (marks (drop l.start l.fields) ≡ tapes_of ks) × ((j : ℕ) → field_marks kept (l.counter + j) ≡ field_marks ks j);
}
