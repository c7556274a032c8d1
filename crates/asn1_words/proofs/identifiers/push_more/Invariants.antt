use Rattle.std.proofs.Common.{◌≡◌, ◌≤◌, ◌-◌, ◌++◌, true, length, drop}
use Rattle.x690.specs.Arcs.{pieces_of, subidentifiers}
use Rattle.asn1_words.specs.Numbers.{are_few, more_arcs_text}
use Rattle.asn1_words.proofs.identifiers.push_more.Given as goal

-- the arcs that are left follow
abbrev pub invariant-loop-at : goal.invariant-loop-at
invariant-loop-at l = (l.at ≤ length l.content) × (are_few 40 (pieces_of (drop l.at l.content)) ≡ true) ×
    (l.text.items ++ more_arcs_text (subidentifiers (drop l.at l.content)) ≡
    l.fn.text.items ++ more_arcs_text (subidentifiers l.content))

abbrev pub decreases-loop-at : goal.decreases-loop-at
decreases-loop-at l = length l.content - l.at
