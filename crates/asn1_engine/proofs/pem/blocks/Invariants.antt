use Rattle.std.proofs.Common.{◌+◌, ◌^◌, ◌<◌, length}
use Rattle.asn1_engine.proofs.Blocks.{GoesOn}
use Rattle.asn1_engine.proofs.pem.blocks.Given as goal

-- the blocks so far, and those that are to come, are those of all
abbrev pub invariant-loop-line : goal.invariant-loop-line
invariant-loop-line l = (l.lines.taken + length l.lines.rest.now < 2 ^ 64) ×
    GoesOn l.text l.lines.taken l.lines.rest.now l.closed.items

abbrev pub decreases-loop-line : goal.decreases-loop-line
decreases-loop-line l = length l.lines.rest.now
