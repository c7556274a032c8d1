use Rattle.std.proofs.Common.{◌≡◌, ◌+◌, length, chars, IsUtf8}
use Rattle.std.specs.Str.Iter.{chars_rest}
use Rattle.x690.specs.Characters.{code_of}
use Rattle.x690.proofs.characters.coded_len.Given as goal

abbrev pub invariant-loop-character : goal.invariant-loop-character
invariant-loop-character g l =
    let octets_of = g.C.CharacterCode.octets_of in
    record {
      text : IsUtf8 (chars_rest l.character-iterator);
      counted : l.len + length (code_of octets_of (chars (chars_rest l.character-iterator))) ≡
          length (code_of octets_of (chars l.text));
    }
