use Rattle.std.proofs.Common.{◌≡◌, ◌++◌, chars, IsUtf8}
use Rattle.std.specs.Str.Iter.{chars_rest}
use Rattle.x690.specs.Octets.{IsOctets}
use Rattle.asn1_json.proofs.reading.characters.numbers_of.Given as goal

-- the octets so far are the numbers of the characters before those that are left
abbrev pub invariant-loop-character : goal.invariant-loop-character
invariant-loop-character l = IsUtf8 (chars_rest l.character-iterator) ×
    (l.octets.items ++ chars (chars_rest l.character-iterator) ≡ chars l.text) × IsOctets l.octets.items
