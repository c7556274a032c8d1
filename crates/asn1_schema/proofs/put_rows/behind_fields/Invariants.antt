use Rattle.std.proofs.Common.{◌≡◌}
use Rattle.asn1_schema.specs.Tape.{KeptRow, marks, tapes_of}
use Rattle.asn1_schema.specs.Writing.{row_behind}
use Rattle.asn1_schema.proofs.put_rows.behind_fields.Given as goal

abbrev pub invariant-loop : goal.invariant-loop
invariant-loop l = (kept : KeptRow) → marks l.fn.items ≡ tapes_of kept → marks l.rest ≡ tapes_of (row_behind l.counter kept)
