use Rattle.std.proofs.Common.{map, Ok}
use Rattle.std.specs.Iterator.{Yields}
use Rattle.asn1_headers.specs.Walk.{TakesItem}
use Rattle.asn1_rs.proofs.asn1_types.lists.items_by.Given as goal

abbrev pub invariant-loop-item : goal.invariant-loop-item
invariant-loop-item g l = Yields (TakesItem g.F.ReadsItems.item_gives g.E.From.from_gives) l.content
    (map Ok l.items.items) l.item-iterator.left.now
