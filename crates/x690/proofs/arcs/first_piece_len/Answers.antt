use Rattle.std.proofs.Common.{◌≡◌, ℕ, length, arith, below_more, add-one, subst}
use Rattle.x690.specs.Laws.Arcs.{piece_ends}
use Rattle.x690.specs.Laws.Arcs.Fronts.{whole_piece}
use Rattle.x690.specs.Laws.Digits.{HaveBit8To}
use Rattle.x690.proofs.arcs.first_piece_len.Goals as goal

pub returns-then-octet-lt128-clause-piece : goal.returns-then-octet-lt128-clause-piece
returns-then-octet-lt128-clause-piece c =
    rw (add-one c.loop-i.i)
    (piece_ends c.loop-i.i c.args.octets.now c.loop-i.invariant c.loop-i-test.true c.if-octet-lt128.true)

pub loop-i-preserved : goal.loop-i-preserved
loop-i-preserved c = below_more _ _ c.loop-i.invariant c.if-octet-lt128.false

pub returns-clause-piece : goal.returns-clause-piece
returns-clause-piece c =
    let octets = c.args.octets.now in
    let all : c.loop-i.i ≡ length octets = omega arith in
    whole_piece octets c.requires (subst (λ (n : ℕ). HaveBit8To n octets) all c.loop-i.invariant)
