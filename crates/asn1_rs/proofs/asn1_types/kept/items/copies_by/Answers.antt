use Rattle.std.proofs.Common.{◌∷◌, [], ◌++◌, inr}
use Rattle.std.specs.List.{AllZip}
use Rattle.asn1_headers.specs.Walk.{TakesItem}
use Rattle.asn1_rs.proofs.OneItemMore.{zip_push}
use Rattle.asn1_rs.proofs.Lists.{items_push, items_end}
use Rattle.asn1_rs.proofs.asn1_types.kept.items.copies_by.Goals as goal

pub loop-item-preserved : goal.loop-item-preserved
loop-item-preserved g c =
    let steps = TakesItem g.F.ReadsItems.item_gives g.E.From.from_gives in
    let (items, walked, copied) = c.loop-item.invariant in
    let more : AllZip g.T.ToStatic.copies (items ++ c.in-Ok.item ∷ [])
    (c.loop-item.copies.items ++ c.in-Ok-to_static.copy ∷ []) = zip_push g.T.ToStatic.copies items
    c.loop-item.copies.items c.in-Ok.item c.in-Ok-to_static.copy copied c.in-Ok-to_static.ensures.copied in (
      items ++ c.in-Ok.item ∷ [],
      items_push steps items _ _ _ c.in-Ok.item walked (rw c.in-Ok.is at c.in-Some.ensures.steps),
      rw c.in-Ok-push.ensures.items more,
    )

pub returns-in-Err : goal.returns-in-Err
returns-in-Err g c =
    let steps = TakesItem g.F.ReadsItems.item_gives g.E.From.from_gives in
    let (items, walked, copied) = c.loop-item.invariant in
    inr (items, _, items_end steps items _ _ _ _ walked (rw c.in-Err.is at c.in-Some.ensures.steps))
