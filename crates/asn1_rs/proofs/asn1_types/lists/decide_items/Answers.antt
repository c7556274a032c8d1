use Rattle.std.proofs.Common.{◌∙◌, length, refl, subst, sym}
use Rattle.std.proofs.lemmas.Bool.{false≢true}
use Rattle.std.proofs.lemmas.List.Elements.{All-more}
use Rattle.std.proofs.lemmas.List.{take_all}
use Rattle.std.specs.List.{All}
use Rattle.asn1_rs.proofs.Lists.{item_given, all_given, one_longer}
use Rattle.asn1_rs.proofs.asn1_types.lists.decide_items.Goals as goal

pub returns-then-not-decide : goal.returns-then-not-decide
returns-then-not-decide g c = λ xs i.
    let at = item_given i c.into_iter-item-iterator.result c.loop-item.item-iterator c.next.new.self
    c.into_iter-item-iterator.ensures.into_iter_gives c.loop-item.yielded c.loop-item.yielded_by c.next.result
    c.next.ensures.steps c.in-Some.item c.in-Some.is c.deref.result.now c.deref.ensures in (
      λ t. absurd (false≢true t),
      λ a. absurd (false≢true (sym c.if-not-decide.true ∙ c.decide.ensures.1 (subst g.P.Decides.says (sym at.1)
          (a (length c.loop-item.yielded) c.deref.result.now at.0)))),
    )

pub loop-item-preserved : goal.loop-item-preserved
loop-item-preserved g c = (
  (c.in-Some.ensures.goes.on c.loop-item.invariant.1).0,
  (c.in-Some.ensures.goes.on c.loop-item.invariant.1).1,
  λ xs i.
      let at = item_given i c.into_iter-item-iterator.result c.loop-item.item-iterator c.next.new.self
      c.into_iter-item-iterator.ensures.into_iter_gives c.loop-item.yielded c.loop-item.yielded_by c.next.result
      c.next.ensures.steps c.in-Some.item c.in-Some.is c.deref.result.now c.deref.ensures in
      rw (one_longer c.loop-item.yielded c.in-Some.item) (All-more g.P.Decides.says xs (length c.loop-item.yielded)
      c.deref.result.now at.0 (c.loop-item.invariant.2 xs i) (subst g.P.Decides.says at.1
      (c.decide.ensures.0 c.if-not-decide.false))),
)

pub returns : goal.returns
returns g c = λ xs i. (
  λ t. subst (All g.P.Decides.says) (take_all (length c.loop-item.yielded) xs (all_given i
      c.into_iter-item-iterator.result c.loop-item.item-iterator c.next.new.self
      c.into_iter-item-iterator.ensures.into_iter_gives c.loop-item.yielded c.loop-item.yielded_by c.next.result
      c.next.ensures.steps c.in-None.is)) (c.loop-item.invariant.2 xs i),
  λ a. refl,
)
