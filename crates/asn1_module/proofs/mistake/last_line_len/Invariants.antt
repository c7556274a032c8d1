use Rattle.std.proofs.Common.{◌≡◌, ◌+◌, ◌≤◌, length, take}
use Rattle.std.specs.List.{suffix_len}
use Rattle.asn1_module.specs.Mistakes.{is_in_line}
use Rattle.asn1_module.proofs.mistake.last_line_len.Given as goal

abbrev pub invariant-loop-start : goal.invariant-loop-start
invariant-loop-start l =
    (l.start ≤ length l.octets)
    × (l.start + suffix_len is_in_line l.octets ≡ length l.octets + suffix_len is_in_line (take l.start l.octets))

abbrev pub decreases-loop-start : goal.decreases-loop-start
decreases-loop-start l = l.start
