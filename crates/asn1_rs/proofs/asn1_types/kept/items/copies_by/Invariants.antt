use Rattle.std.proofs.Common.{List, map, Ok}
use Rattle.std.specs.Iterator.{Yields}
use Rattle.std.specs.List.{AllZip}
use Rattle.asn1_headers.specs.Walk.{TakesItem}
use Rattle.asn1_rs.proofs.asn1_types.kept.items.copies_by.Given as goal

abbrev pub invariant-loop-item : goal.invariant-loop-item
invariant-loop-item g l = (items : List g.row.T.Denot) ×
    Yields (TakesItem g.F.ReadsItems.item_gives g.E.From.from_gives) l.content (map Ok items) l.item-iterator.left.now ×
    AllZip g.T.ToStatic.copies items l.copies.items
