use Rattle.std.proofs.Common.{◌∙◌, ap, length, length-append, arith}
use Rattle.asn1_schema.specs.Tape.{tapes_of}
use Rattle.asn1_schema.specs.Writing.{row_behind}
use Rattle.asn1_schema.proofs.TruncatedTapes.{length_before, between_places}
use Rattle.asn1_schema.proofs.put_rows.count_behind.Goals as goal

pub returns : goal.returns
returns c front kept e l =
    let n = length_before c.args.tape.now c.args.end c.requires in
    let m = ap length e ∙ length-append front (tapes_of kept) in
    let start = c.saturating_sub-start.ensures in
    c.count_members.ensures (row_behind c.args.places kept)
    (c.behind_fields.ensures kept (between_places c.args.tape.now c.saturating_sub-start.result c.args.end front (tapes_of kept)
    c.requires e (omega (arith, l, start, n, m))))
