use Rattle.std.proofs.Common.{◌≡◌, ◌+◌, ◌*◌, ◌≤◌, ◌++◌, length, take, chars, IsUtf8}
use Rattle.std.specs.Str.Iter.{chars_rest}
use Rattle.x690.specs.Characters.{code_of}
use Rattle.x690.proofs.characters.fill.Given as goal

abbrev pub invariant-loop-at : goal.invariant-loop-at
invariant-loop-at g l =
    let octets_of = g.C.CharacterCode.octets_of in
    record {
      text : IsUtf8 (chars_rest l.rest);
      put : code_of octets_of (chars l.text) ≡ take l.at l.buffer ++ code_of octets_of (chars (chars_rest l.rest));
      within : l.at ≤ 256;
      few : l.at + 4 * length (chars_rest l.rest) ≤ 4 * length l.text;
    }
