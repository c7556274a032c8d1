use Rattle.std.proofs.Common.{List, map, Ok, subst, sym, inr}
use Rattle.std.specs.Iterator.{Yields}
use Rattle.asn1_headers.specs.Walk.{TakesItem}
use Rattle.asn1_rs.specs.Sequence.Iterator.{octets_left}
use Rattle.asn1_rs.proofs.Lists.{items_push, items_end}
use Rattle.asn1_rs.proofs.asn1_types.lists.items_by.Goals as goal

pub returns-in-Err-item : goal.returns-in-Err-item
returns-in-Err-item g c =
    inr (
      c.loop-item.items.items,
      _,
      items_end (TakesItem g.F.ReadsItems.item_gives g.E.From.from_gives) c.loop-item.items.items _ _ _ _
          c.loop-item.invariant (rw c.in-Err-item.is at c.in-Some.ensures.steps),
    )

pub loop-item-preserved : goal.loop-item-preserved
loop-item-preserved g c =
    subst (λ (xs : List g.row.T.Denot). Yields (TakesItem g.F.ReadsItems.item_gives g.E.From.from_gives)
    c.args.content.now (map Ok xs) (octets_left c.next.new.self)) (sym c.in-Ok-push.ensures.items)
    (items_push (TakesItem g.F.ReadsItems.item_gives g.E.From.from_gives) c.loop-item.items.items _ _ _ _
    c.loop-item.invariant (rw c.in-Ok-item.is at c.in-Some.ensures.steps))
