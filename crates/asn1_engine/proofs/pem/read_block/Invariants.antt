use Rattle.std.proofs.Common.{◌≡◌, ℕ, ◌+◌, ◌^◌, ◌<◌, ◌≤◌, length}
use Rattle.asn1_engine.specs.Pem.{Encloses}
use Rattle.asn1_engine.proofs.pem.read_block.Given as goal

-- the lines so far are of the block, and their base64 is kept
abbrev pub invariant-loop-line : goal.invariant-loop-line
invariant-loop-line l = (count : ℕ) × Encloses count l.fn.lines.rest.now l.base64.items l.lines.rest.now ×
    (l.lines.taken ≡ l.fn.lines.taken + count) × (l.lines.taken + length l.lines.rest.now < 2 ^ 64) ×
    (length l.lines.rest.now ≤ length l.fn.lines.rest.now)

abbrev pub decreases-loop-line : goal.decreases-loop-line
decreases-loop-line l = length l.lines.rest.now
