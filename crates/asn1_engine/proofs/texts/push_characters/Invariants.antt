use Rattle.std.proofs.Common.{◌≡◌, ℕ, ◌≤◌, List, ◌++◌, length, drop}
use Rattle.asn1_engine.specs.Texts.{Shows}
use Rattle.asn1_engine.proofs.texts.push_characters.Given as goal

-- characters are shown, and whatever is shown of the octets that are left stands behind them
abbrev pub invariant-loop-left : goal.invariant-loop-left
invariant-loop-left l = (l.at ≤ length l.octets) × ((shown : List ℕ) × (l.text.items ≡ l.fn.text.items ++ shown) ×
    ((more rest : List ℕ) → Shows l.coding l.left (drop l.at l.octets) more rest →
    Shows l.coding l.width l.octets (shown ++ more) rest))

abbrev pub decreases-loop-left : goal.decreases-loop-left
decreases-loop-left l = l.left
