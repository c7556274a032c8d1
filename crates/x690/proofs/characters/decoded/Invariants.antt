use Rattle.std.proofs.Common.{◌≡◌, ℕ, List, length, encode_utf8_all, string_bytes, string_capacity, ◌≤◌}
use Rattle.x690.proofs.CodedTexts.{AreRead}
use Rattle.x690.proofs.characters.decoded.Given as goal

abbrev pub invariant-loop-character : goal.invariant-loop-character
invariant-loop-character g l = record {
  read : (cs : List ℕ) × AreRead g.C.CharacterCode.octets_of l.octets cs l.rest ×
      (string_bytes l.text ≡ encode_utf8_all cs);
  room : l.capacity ≤ string_capacity l.text;
}

abbrev pub decreases-loop-character : goal.decreases-loop-character
decreases-loop-character g l = length l.rest
