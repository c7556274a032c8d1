use Rattle.std.proofs.Common.{◌≡◌, ◌++◌, length}
use Rattle.std.specs.Str.{chars}
use Rattle.x690.specs.Characters.{code_of}
use denote.Shadow.{shadow}
use denote.Text.{Utf8}
use Rattle.asn1_json.proofs.reading.characters.coded.Given as goal

abbrev pub invariant-loop-rest : goal.invariant-loop-rest
invariant-loop-rest g l = shadow (Utf8 l.rest) × (l.octets.items ++ code_of g.C.CharacterCode.octets_of (chars l.rest) ≡
    code_of g.C.CharacterCode.octets_of (chars l.text))

abbrev pub decreases-loop-rest : goal.decreases-loop-rest
decreases-loop-rest g l = length l.rest
