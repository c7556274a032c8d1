use Rattle.std.proofs.Common.{arith}
use Rattle.x690.specs.Laws.Arcs.Runs.{no_run_more, short_pieces}
use Rattle.x690.proofs.arcs.has_short_pieces.Goals as goal

pub returns : goal.returns
returns c t =
    let octets = c.args.octets.now in
    let none = no_run_more c.loop-octet.run c.loop-octet.octet-index octets (omega arith) in
    short_pieces octets (c.loop-octet.invariant.short t none)
