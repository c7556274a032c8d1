use Rattle.std.proofs.Common.{◌≡◌, ℕ, List, length, encode_utf8_all}
use Rattle.x690.proofs.CodedTexts.{AreRead}
use Rattle.x690.proofs.characters.text_len.Given as goal

abbrev pub invariant-loop-rest : goal.invariant-loop-rest
invariant-loop-rest g l =
    (cs : List ℕ) × AreRead g.C.CharacterCode.octets_of l.octets cs l.rest × (l.len ≡ length (encode_utf8_all cs))

abbrev pub decreases-loop-rest : goal.decreases-loop-rest
decreases-loop-rest g l = length l.rest
