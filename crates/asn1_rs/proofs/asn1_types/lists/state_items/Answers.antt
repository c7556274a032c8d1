use Rattle.std.proofs.Common.{length, subst}
use Rattle.std.proofs.lemmas.List.Elements.{All-more}
use Rattle.std.proofs.lemmas.List.{take_all}
use Rattle.std.specs.List.{All}
use Rattle.asn1_rs.proofs.Lists.{item_given, all_given, one_longer}
use Rattle.asn1_rs.proofs.asn1_types.lists.state_items.Goals as goal

pub loop-item-preserved : goal.loop-item-preserved
loop-item-preserved g c = (
  (c.in-Some.ensures.goes.on c.loop-item.invariant.1).0,
  (c.in-Some.ensures.goes.on c.loop-item.invariant.1).1,
  λ xs i.
      let at = item_given i c.into_iter-item-iterator.result c.loop-item.item-iterator c.next.new.self
      c.into_iter-item-iterator.ensures.into_iter_gives c.loop-item.yielded c.loop-item.yielded_by c.next.result
      c.next.ensures.steps c.in-Some.item c.in-Some.is c.deref.result.now c.deref.ensures in
      rw (one_longer c.loop-item.yielded c.in-Some.item) (All-more g.P.States.says xs (length c.loop-item.yielded)
      c.deref.result.now at.0 (c.loop-item.invariant.2 xs i) (subst g.P.States.says at.1 c.state.ensures)),
)

pub returns : goal.returns
returns g c = λ xs i.
    subst (All g.P.States.says) (take_all (length c.loop-item.yielded) xs (all_given i c.into_iter-item-iterator.result
    c.loop-item.item-iterator c.next.new.self c.into_iter-item-iterator.ensures.into_iter_gives c.loop-item.yielded
    c.loop-item.yielded_by c.next.result c.next.ensures.steps c.in-None.is)) (c.loop-item.invariant.2 xs i)
