use Rattle.std.proofs.Common.{List, length, take}
use Rattle.std.specs.List.{All}
use Rattle.asn1_rs.specs.Lists.{GivesItems}
use Rattle.asn1_rs.proofs.asn1_types.lists.decide_items.Given as goal

abbrev pub invariant-loop-item : goal.invariant-loop-item
invariant-loop-item g l =
    (goal.iterator-loop-item g).can_next l.item-iterator × (goal.iterator-loop-item g).is_finite l.item-iterator
    × ((xs : List _) → GivesItems g.I.Iterator.next_gives g.R.Deref.deref_gives l.fn.items xs →
    All g.P.Decides.says (take (length l.yielded) xs))
