use Rattle.std.proofs.Common.{arith, ap, length}
use Rattle.std.specs.Str.Iter.{chars_rest}
use Rattle.std.proofs.lemmas.Str.{IsUtf8-past_char}
use Rattle.x690.specs.Laws.Characters.{code_empty}
use Rattle.x690.proofs.CodedTexts.{code_len_past}
use Rattle.x690.proofs.characters.coded_len.Goals as goal

pub returns-in_err-len-clause-none : goal.returns-in_err-len-clause-none
returns-in_err-len-clause-none g c =
    let inv = c.loop-character.invariant in
    let past =
    code_len_past g.C.CharacterCode.octets_of g.C.CharacterCode.is (chars_rest c.loop-character.character-iterator)
    (chars_rest c.next.new.self) c.in-Some.character inv.text c.in-Some.ensures.steps.0 in
    rw c.from_residual.ensures (omega (arith, past, inv.counted, c.in_err-len.ensures))

pub loop-character-preserved : goal.loop-character-preserved
loop-character-preserved g c =
    let inv = c.loop-character.invariant in
    let past =
    code_len_past g.C.CharacterCode.octets_of g.C.CharacterCode.is (chars_rest c.loop-character.character-iterator)
    (chars_rest c.next.new.self) c.in-Some.character inv.text c.in-Some.ensures.steps.0 in
    record {
      text = IsUtf8-past_char (chars_rest c.loop-character.character-iterator)
          (chars_rest c.next.new.self) c.in-Some.character inv.text c.in-Some.ensures.steps.0;
      counted = omega (arith, past, inv.counted, c.in_ok-len.ensures);
    }

pub returns-clause-some : goal.returns-clause-some
returns-clause-some g c =
    let inv = c.loop-character.invariant in
    omega (
      arith,
      inv.counted,
      ap length (code_empty g.C.CharacterCode.octets_of
          (chars_rest c.loop-character.character-iterator) c.in-None.ensures.steps.0.0),
    )
