use Rattle.std.proofs.Common.{◌∷◌, ◌++◌, [], arith, ap, sym, ◌∙◌, encode_utf8_all}
use Rattle.x690.proofs.CodedTexts.{utf8_more, one_more_read, begun_shorter, none_left}
use Rattle.x690.proofs.characters.decoded.Goals as goal

pub loop-character-smaller : goal.loop-character-smaller
loop-character-smaller g c =
    let code = g.C.CharacterCode in
    begun_shorter code.octets_of code.is c.loop-character.rest.now c.in-Some.others.now c.in-Some.character
    c.in-Some.ensures.some

pub loop-character-preserved : goal.loop-character-preserved
loop-character-preserved g c =
    let code = g.C.CharacterCode in
    let inv = c.loop-character.invariant.read in
    let one = c.in-Some.character in
    let r = one_more_read code.octets_of code.is c.args.octets.now inv.0 c.loop-character.rest.now c.in-Some.others.now
    one inv.1 c.in-Some.ensures.some in
    let grown = c.in_ok-push.ensures.bytes in
    let more = utf8_more inv.0 one in
    record {
      read = (inv.0 ++ one ∷ [], r, cc);
      room = omega (arith, c.in_ok-push.ensures.capacity, c.loop-character.invariant.room);
    }

pub returns-clause-text : goal.returns-clause-text
returns-clause-text g c = λ cs h.
    let code = g.C.CharacterCode in
    let inv = c.loop-character.invariant.read in
    let n = none_left code.octets_of code.is c.args.octets.now inv.0 c.loop-character.rest.now inv.1
    c.in_default.ensures.none cs h in
    inv.2 ∙ ap encode_utf8_all (sym n.1)
