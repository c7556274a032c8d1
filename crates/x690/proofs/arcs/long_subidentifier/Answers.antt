use Rattle.std.proofs.Common.{◌≡◌, ℕ, ◌+◌, ◌∷◌, List, length, take, drop, arith, below_more, add-one, ap}
use Rattle.std.proofs.Common.{sym, ◌∙◌, subst}
use Rattle.x690.specs.Digits.{base_128_value}
use Rattle.x690.specs.Arcs.{pieces_of, first_subidentifier}
use Rattle.x690.specs.Laws.Arcs.{piece_ends}
use Rattle.x690.specs.Laws.Arcs.Fronts.{whole_piece, first_is}
use Rattle.x690.specs.Laws.Digits.{HaveBit8To, base_128_value_more}
use Rattle.x690.proofs.arcs.long_subidentifier.Goals as goal

pub loop-i-preserved : goal.loop-i-preserved
loop-i-preserved c =
    let more = base_128_value_more c.args.octets.now c.loop-i.i c.loop-i-test.true in
    record {
      low = omega arith;
      front = omega arith;
      high = below_more _ _ c.loop-i.invariant.high c.if-digit-lt128.false;
    }

pub returns-then-digit-lt128-clause-piece : goal.returns-then-digit-lt128-clause-piece
returns-then-digit-lt128-clause-piece c =
    rw (add-one c.loop-i.i)
    (piece_ends c.loop-i.i c.args.octets.now c.loop-i.invariant.high c.loop-i-test.true c.if-digit-lt128.true)

pub returns-then-digit-lt128-clause-low : goal.returns-then-digit-lt128-clause-low
returns-then-digit-lt128-clause-low c =
    let octets = c.args.octets.now in
    let more = base_128_value_more octets c.loop-i.i c.loop-i-test.true in
    let first = first_is octets (c.loop-i.i + 1) (returns-then-digit-lt128-clause-piece c) in
    omega arith

pub returns-then-digit-lt128-clause-front : goal.returns-then-digit-lt128-clause-front
returns-then-digit-lt128-clause-front c =
    let octets = c.args.octets.now in
    let more = base_128_value_more octets c.loop-i.i c.loop-i-test.true in
    let first = first_is octets (c.loop-i.i + 1) (returns-then-digit-lt128-clause-piece c) in
    omega arith

pub returns-clause-piece : goal.returns-clause-piece
returns-clause-piece c =
    let octets = c.args.octets.now in
    let all : c.loop-i.i ≡ length octets = omega arith in
    whole_piece octets c.requires (subst (λ (n : ℕ). HaveBit8To n octets) all c.loop-i.invariant.high)

-- where no octet ends the first piece, its number is that of all octets
first_of_all : (octets : List ℕ) (i : ℕ) → i ≡ length octets →
    pieces_of octets ≡ take (length octets) octets ∷ pieces_of (drop (length octets) octets) →
    base_128_value (take i octets) ≡ first_subidentifier octets
first_of_all octets i all piece =
    ap (λ (n : ℕ). base_128_value (take n octets)) all ∙ sym (first_is octets (length octets) piece)

pub returns-clause-low : goal.returns-clause-low
returns-clause-low c =
    let first = first_of_all c.args.octets.now c.loop-i.i (omega arith) (returns-clause-piece c) in
    omega arith

pub returns-clause-front : goal.returns-clause-front
returns-clause-front c =
    let first = first_of_all c.args.octets.now c.loop-i.i (omega arith) (returns-clause-piece c) in
    omega arith
