use Rattle.std.proofs.Common.{◌∙◌, sym, length}
use Rattle.asn1_json.proofs.Innermost.{inner_next}
use Rattle.asn1_json.proofs.types.innermost.Goals as goal

pub loop-preserved : goal.loop-preserved
loop-preserved c =
    c.loop.invariant
    ∙ inner_next c.args.table.now (length c.args.table.now) c.loop.counter c.loop.place c.in-Some.next c.loop-test.true (sym c.in-Some.ensures)
