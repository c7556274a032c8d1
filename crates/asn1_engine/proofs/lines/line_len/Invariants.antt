use Rattle.std.proofs.Common.{◌-◌, ◌≤◌, take, length}
use Rattle.x690.specs.Sets.{AllIn}
use Rattle.asn1_engine.specs.Pem.{is_no_feed}
use Rattle.asn1_engine.proofs.lines.line_len.Given as goal

-- no line feed stands in front
abbrev pub invariant-loop-len : goal.invariant-loop-len
invariant-loop-len l = (l.len ≤ length l.text) × AllIn is_no_feed (take l.len l.text)

abbrev pub decreases-loop-len : goal.decreases-loop-len
decreases-loop-len l = length l.text - l.len
