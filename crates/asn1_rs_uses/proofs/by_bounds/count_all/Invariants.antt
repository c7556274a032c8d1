use Rattle.std.proofs.Common.{◌≡◌, List, length, take}
use Rattle.std.specs.List.{All, flat_map}
use Rattle.asn1_rs.specs.Lists.{GivesItems}
use Rattle.asn1_rs_uses.proofs.by_bounds.count_all.Given as goal
use Rattle.asn1_rs.specs.ToDer.{whole_octets}

abbrev pub invariant-loop-item : goal.invariant-loop-item
invariant-loop-item g l =
    (goal.iterator-loop-item g).can_next l.item-iterator × (goal.iterator-loop-item g).is_finite l.item-iterator
    × ((xs : List _) → GivesItems g.I.Iterator.next_gives (λ r x. x ≡ r.now) l.fn.items xs →
    All g.T.ToDer.writing.tells xs →
    l.all ≡ length (flat_map (whole_octets g.T.ToDer.writing) (take (length l.yielded) xs)))
