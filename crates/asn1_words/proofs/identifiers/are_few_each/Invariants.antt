use Rattle.std.proofs.Common.{◌≡◌, ◌≤◌, ◌-◌, length, drop}
use Rattle.x690.specs.Arcs.{pieces_of}
use Rattle.asn1_words.specs.Numbers.{are_few}
use Rattle.asn1_words.proofs.identifiers.are_few_each.Given as goal

-- all are few exactly where those that are left are
abbrev pub invariant-loop-at : goal.invariant-loop-at
invariant-loop-at l = (l.at ≤ length l.content) ×
    (are_few l.fn.most (pieces_of l.content) ≡ are_few l.most (pieces_of (drop l.at l.content)))

abbrev pub decreases-loop-at : goal.decreases-loop-at
decreases-loop-at l = length l.content - l.at
