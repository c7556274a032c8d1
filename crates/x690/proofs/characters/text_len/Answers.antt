use Rattle.std.proofs.Common.{ℕ, ◌==◌, List, ◌∷◌, ◌++◌, [], ap, arith, length}
use Rattle.x690.proofs.CodedTexts.{utf8_len_more, one_more_read, read_utf8, none_left}
use Rattle.x690.proofs.characters.text_len.Goals as goal

pub overflow_add-len : goal.overflow_add-len
overflow_add-len g c =
    let code = g.C.CharacterCode in
    let inv = c.loop-rest.invariant in
    let one = c.in_ok-character.character in
    let r = one_more_read code.octets_of code.is c.args.octets.now inv.0 c.loop-rest.rest.now
    c.in_ok-character.others.now one inv.1 c.in_ok-character.ensures.some in
    omega (arith, read_utf8 code.octets_of code.is _ _ _ r, utf8_len_more inv.0 one)

pub loop-rest-preserved : goal.loop-rest-preserved
loop-rest-preserved g c =
    let code = g.C.CharacterCode in
    let inv = c.loop-rest.invariant in
    let one = c.in_ok-character.character in
    let r = one_more_read code.octets_of code.is c.args.octets.now inv.0 c.loop-rest.rest.now
    c.in_ok-character.others.now one inv.1 c.in_ok-character.ensures.some in
    (inv.0 ++ one ∷ [], r, omega (arith, utf8_len_more inv.0 one))

pub returns-in_err-character-clause-none : goal.returns-in_err-character-clause-none
returns-in_err-character-clause-none g c =
    rw c.from_residual.ensures (λ cs h.
    let code = g.C.CharacterCode in
    let inv = c.loop-rest.invariant in
    let n = none_left code.octets_of code.is c.args.octets.now inv.0 c.loop-rest.rest.now inv.1
    c.in_err-character.ensures.none cs h in
    let e = ap (λ (xs : List ℕ). length xs == 0) n.0 in
    let some = c.loop-rest-test.ensures in
    absurd (cc))
