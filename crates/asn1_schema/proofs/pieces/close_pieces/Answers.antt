use Rattle.std.proofs.Common.{refl, ◌-◌, arith}
use Rattle.asn1_schema.proofs.TakenPieces.{none_closed, some_closed}
use Rattle.asn1_schema.proofs.pieces.close_pieces.Goals as goal

pub returns-then-count-eq0-clause-closed : goal.returns-then-count-eq0-clause-closed
returns-then-count-eq0-clause-closed c = λ front os e p. none_closed c.args.sort c.args.tape.now.items _ front os c.args.place _ e p
    (grind (arith, c.if-count-eq0.true, c.len.ensures)) c.no_pieces.ensures refl

pub returns-in-Ok-clause-closed : goal.returns-in-Ok-clause-closed
returns-in-Ok-clause-closed c = λ front os e p. some_closed c.args.sort c.args.tape.now.items c.push.new.self.items front os c.args.place
    (c.len.result - c.args.place - 1) e p (omega (arith, c.len.ensures)) (λ z. let f = c.if-count-eq0.false in grind (arith, f, z))
    c.in-Ok.ensures.items
