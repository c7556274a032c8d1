use Rattle.std.proofs.Common.{◌+◌, ◌^◌, ◌<◌, ◌↔◌, length}
use Rattle.asn1_engine.specs.Pem.{HasBegin}
use Rattle.asn1_engine.proofs.pem.has_begin.Given as goal

-- the text has a line of BEGIN exactly where what is left has one
abbrev pub invariant-loop-line : goal.invariant-loop-line
invariant-loop-line l =
    (HasBegin l.text ↔ HasBegin l.lines.rest.now) × (l.lines.taken + length l.lines.rest.now < 2 ^ 64)

abbrev pub decreases-loop-line : goal.decreases-loop-line
decreases-loop-line l = length l.lines.rest.now
