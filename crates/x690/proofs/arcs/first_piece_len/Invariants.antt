use Rattle.x690.specs.Laws.Digits.{HaveBit8To}
use Rattle.x690.proofs.arcs.first_piece_len.Given as goal

abbrev pub invariant-loop-i : goal.invariant-loop-i
invariant-loop-i l = HaveBit8To l.i l.octets
