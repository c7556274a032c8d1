use Rattle.std.proofs.Common.{◌≡◌, arith, ◌+◌, ◌-◌}
use Rattle.asn1_headers.proofs.PartsSwapped.{swapped}
use Rattle.asn1_headers.proofs.buffer.swap_parts.Goals as goal

pub returns-clause-swapped : goal.returns-clause-swapped
returns-clause-swapped c = λ one other rest e l m.
    swapped c.args.start (c.args.start + (c.args.count + c.args.by) - c.args.start) c.args.count c.args.octets.now
    c.rotate_left.new.self one other rest (omega (arith, c.requires)) (omega (arith, l, m)) l e c.rotate_left.ensures.after
