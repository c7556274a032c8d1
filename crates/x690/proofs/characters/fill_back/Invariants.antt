use Rattle.std.proofs.Common.{◌≡◌, ◌+◌, ◌-◌, ◌*◌, ◌≤◌, ◌++◌, length, take, drop, chars}
use denote.Shadow.{shadow}
use denote.Text.{Utf8}
use Rattle.x690.specs.Characters.{code_of}
use Rattle.x690.proofs.characters.fill_back.Given as goal

abbrev pub invariant-loop-at : goal.invariant-loop-at
invariant-loop-at g l =
    let octets_of = g.C.CharacterCode.octets_of in
    shadow (Utf8 l.rest) ×
    ((code_of octets_of (chars l.text) ≡ code_of octets_of (chars l.rest) ++ take (256 - l.at) (drop l.at l.buffer)) ×
    (l.at ≤ 256) × ((256 - l.at) + 4 * length l.rest ≤ 4 * length l.text))

abbrev pub decreases-loop-at : goal.decreases-loop-at
decreases-loop-at g l = length l.rest
