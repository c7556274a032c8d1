use Rattle.std.proofs.Common.{◌∙◌, ap, inl, length}
use Rattle.std.proofs.lemmas.Bool.{false≢true}
use Rattle.std.proofs.lemmas.List.{take_all}
use Rattle.std.proofs.lemmas.Result.{err_from_is_err_and}
use Rattle.std.specs.List.{flat_map}
use Rattle.asn1_rs.proofs.Lists.{item_given, all_given, one_longer, item_all, RefusesCount_item}
use Rattle.asn1_rs.proofs.Lists.{MayRefuseCount_item_sum, count_next, none_more, none_of_all}
use Rattle.asn1_rs.proofs.asn1_types.lists.count_items.Goals as goal
use Rattle.asn1_rs.specs.ToDer.{whole_octets}

pub returns-in_err-count-clause-refused : goal.returns-in_err-count-clause-refused
returns-in_err-count-clause-refused g c = λ xs i t.
    let p = err_from_is_err_and c.from_residual.result c.from_residual.ensures.1 in
    let at = item_given i c.into_iter-item-iterator.result c.loop-item.item-iterator c.next.new.self
    c.into_iter-item-iterator.ensures.into_iter_gives c.loop-item.yielded c.loop-item.yielded_by c.next.result
    c.next.ensures.steps c.in-Some.item c.in-Some.is c.deref.result.now c.deref.ensures in
    let told = item_all (whole_octets g.T.ToDer.writing) xs
    (length c.loop-item.yielded) c.deref.result.now at.0 at.1 g.T.ToDer.writing.tells t in
    rw (p.1, p.2) (RefusesCount_item (whole_octets g.T.ToDer.writing) xs
    (length c.loop-item.yielded) c.deref.result.now at.0 at.1 c.in_err-count.field-0.0
    g.T.ToDer.writing.count_allocates g.T.ToDer.writing.count_refuses (c.in_err-count.ensures.refused told))

pub returns-in_err-total-clause-refused : goal.returns-in_err-total-clause-refused
returns-in_err-total-clause-refused g c = λ xs i t.
    let p = err_from_is_err_and c.from_residual-in_err-total.result c.from_residual-in_err-total.ensures.1 in
    let at = item_given i c.into_iter-item-iterator.result c.loop-item.item-iterator c.next.new.self
    c.into_iter-item-iterator.ensures.into_iter_gives c.loop-item.yielded c.loop-item.yielded_by c.next.result
    c.next.ensures.steps c.in-Some.item c.in-Some.is c.deref.result.now c.deref.ensures in
    let told = item_all (whole_octets g.T.ToDer.writing) xs
    (length c.loop-item.yielded) c.deref.result.now at.0 at.1 g.T.ToDer.writing.tells t in
    rw (p.1, p.2) (inl (MayRefuseCount_item_sum (whole_octets g.T.ToDer.writing) xs (length c.loop-item.yielded)
    c.deref.result.now at.0 at.1 c.in_err-total.field-0.0 g.T.ToDer.writing.count_allocates
    (c.loop-item.invariant.2 xs i t).0 (c.in_ok-count.ensures.count told) c.in_err-total.ensures))

pub loop-item-preserved : goal.loop-item-preserved
loop-item-preserved g c = (
  (c.in-Some.ensures.goes.on c.loop-item.invariant.1).0,
  (c.in-Some.ensures.goes.on c.loop-item.invariant.1).1,
  λ xs i t.
      let at = item_given i c.into_iter-item-iterator.result c.loop-item.item-iterator c.next.new.self
      c.into_iter-item-iterator.ensures.into_iter_gives c.loop-item.yielded c.loop-item.yielded_by c.next.result
      c.next.ensures.steps c.in-Some.item c.in-Some.is c.deref.result.now c.deref.ensures in
      let told = item_all (whole_octets g.T.ToDer.writing) xs
      (length c.loop-item.yielded) c.deref.result.now at.0 at.1 g.T.ToDer.writing.tells t in
      rw (one_longer c.loop-item.yielded c.in-Some.item) (
        count_next (whole_octets g.T.ToDer.writing) xs (length c.loop-item.yielded) c.deref.result.now at.0 at.1 _ _ _
            (c.loop-item.invariant.2 xs i t).0 (c.in_ok-count.ensures.count told) c.in_ok-total.ensures,
        none_more g.T.ToDer.writing.count_refuses xs (length c.loop-item.yielded) c.deref.result.now at.0 at.1
            (c.loop-item.invariant.2 xs i t).1 (λ e o. false≢true (c.in_ok-count.ensures.accepted e told o)),
      ),
)

pub returns-clause-count : goal.returns-clause-count
returns-clause-count g c =
    λ xs i t. (c.loop-item.invariant.2 xs i t).0 ∙ ap (λ ks. length (flat_map (whole_octets g.T.ToDer.writing) ks))
    (take_all (length c.loop-item.yielded) xs (all_given i c.into_iter-item-iterator.result c.loop-item.item-iterator
    c.next.new.self c.into_iter-item-iterator.ensures.into_iter_gives c.loop-item.yielded c.loop-item.yielded_by
    c.next.result c.next.ensures.steps c.in-None.is))

pub returns-clause-accepted : goal.returns-clause-accepted
returns-clause-accepted g c = λ xs e i t o. absurd (none_of_all g.T.ToDer.writing.count_refuses xs
    (length c.loop-item.yielded) (all_given i c.into_iter-item-iterator.result c.loop-item.item-iterator c.next.new.self
    c.into_iter-item-iterator.ensures.into_iter_gives c.loop-item.yielded c.loop-item.yielded_by c.next.result
    c.next.ensures.steps c.in-None.is) (c.loop-item.invariant.2 xs i t).1 e o)
