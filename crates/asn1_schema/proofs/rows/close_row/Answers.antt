use Rattle.std.proofs.Common.{◌-◌, arith}
use Rattle.asn1_schema.proofs.ClosedRows.{row_closed}
use Rattle.asn1_schema.proofs.rows.close_row.Goals as goal

pub returns-in-Ok-clause-closed : goal.returns-in-Ok-clause-closed
returns-in-Ok-clause-closed c front inner e p = row_closed c.args.tape.now.items c.push.new.self.items c.args.place
    (c.len.result - c.args.place - 1) front inner e p (omega (arith, c.len.ensures)) c.in-Ok.ensures.items
