use Rattle.std.proofs.Common.{◌≡◌, ◌∙◌, ap, length, arith}
use Rattle.asn1_schema.specs.Values.{count}
use Rattle.asn1_schema.specs.Counting.{values_from}
use Rattle.asn1_schema.specs.Tape.{marks, begin_mark, end_mark, tapes_of, values_of}
use Rattle.asn1_schema.proofs.Counts.{count_of_row}
use Rattle.asn1_schema.proofs.bounds.row_within.Goals as goal

pub returns : goal.returns
returns c = λ front kept e p.
    let inner : marks c.inner_items-items.result.now ≡ tapes_of kept = c.inner_items-items.ensures front (tapes_of kept)
    (begin_mark (length (tapes_of kept))) (end_mark (length (tapes_of kept))) e p in
    let n : c.count_values.result ≡ count (values_of kept) =
    c.count_values.ensures ∙ (ap (values_from 0 0) inner ∙ count_of_row kept) in
    c.size_within.ensures (count (values_of kept)) (omega (arith, n))
