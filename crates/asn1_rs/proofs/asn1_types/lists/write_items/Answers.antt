use Rattle.std.proofs.Common.{inl, length, subst, Ok, arith, refl}
use Rattle.std.proofs.lemmas.Bool.{false≢true}
use Rattle.std.proofs.lemmas.List.{take_all}
use Rattle.std.specs.List.{flat_map}
use Rattle.asn1_headers.specs.Writer.{Wrote}
use Rattle.asn1_rs.proofs.Lists.{item_given, all_given, one_longer, item_all, Wrote_item_err, Wrote_item_sum}
use Rattle.asn1_rs.proofs.Lists.{Wrote_next, Refuses_item, MayRefuse_item_sum, none_more, none_of_all}
use Rattle.asn1_rs.proofs.Writing.{neither_refuses}
use Rattle.asn1_rs.proofs.asn1_types.lists.write_items.Goals as goal
use Rattle.asn1_rs.specs.ToDer.{whole_allocates, whole_octets, whole_refuses}

pub returns-in-Err-clause-wrote : goal.returns-in-Err-clause-wrote
returns-in-Err-clause-wrote g c = λ xs i t.
    let at = item_given i c.into_iter-item-iterator.result c.loop-item.item-iterator c.next.new.self
    c.into_iter-item-iterator.ensures.into_iter_gives c.loop-item.yielded c.loop-item.yielded_by c.next.result
    c.next.ensures.steps c.in-Some.item c.in-Some.is c.deref.result.now c.deref.ensures in
    let told = item_all (whole_octets g.T.ToDer.writing) xs
    (length c.loop-item.yielded) c.deref.result.now at.0 at.1 g.T.ToDer.writing.tells t in
    Wrote_item_err (whole_octets g.T.ToDer.writing) xs (length c.loop-item.yielded) c.deref.result.now at.0 at.1
    (c.loop-item.invariant.2 xs i t).0 (c.in-Err.ensures.wrote told)

pub returns-in-Err-clause-refused : goal.returns-in-Err-clause-refused
returns-in-Err-clause-refused g c = λ xs i t.
    let at = item_given i c.into_iter-item-iterator.result c.loop-item.item-iterator c.next.new.self
    c.into_iter-item-iterator.ensures.into_iter_gives c.loop-item.yielded c.loop-item.yielded_by c.next.result
    c.next.ensures.steps c.in-Some.item c.in-Some.is c.deref.result.now c.deref.ensures in
    let told = item_all (whole_octets g.T.ToDer.writing) xs
    (length c.loop-item.yielded) c.deref.result.now at.0 at.1 g.T.ToDer.writing.tells t in
    Refuses_item (whole_octets g.T.ToDer.writing) xs (length c.loop-item.yielded) c.deref.result.now at.0 at.1
    c.in-Err.e (whole_allocates g.T.ToDer.writing) (whole_refuses g.T.ToDer.writing) (c.in-Err.ensures.refused told)

pub returns-in-None-checked_add-clause-wrote : goal.returns-in-None-checked_add-clause-wrote
returns-in-None-checked_add-clause-wrote g c = λ xs i t.
    let at = item_given i c.into_iter-item-iterator.result c.loop-item.item-iterator c.next.new.self
    c.into_iter-item-iterator.ensures.into_iter_gives c.loop-item.yielded c.loop-item.yielded_by c.next.result
    c.next.ensures.steps c.in-Some.item c.in-Some.is c.deref.result.now c.deref.ensures in
    let told = item_all (whole_octets g.T.ToDer.writing) xs
    (length c.loop-item.yielded) c.deref.result.now at.0 at.1 g.T.ToDer.writing.tells t in
    Wrote_item_sum (whole_octets g.T.ToDer.writing) xs (length c.loop-item.yielded) c.deref.result.now at.0 at.1
    (c.loop-item.invariant.2 xs i t).0 (c.in-Ok.ensures.wrote told) (
      refl,
      omega (arith, c.in-None-checked_add.ensures),
    )

pub returns-in-None-checked_add-clause-refused : goal.returns-in-None-checked_add-clause-refused
returns-in-None-checked_add-clause-refused g c = λ xs i t.
    let at = item_given i c.into_iter-item-iterator.result c.loop-item.item-iterator c.next.new.self
    c.into_iter-item-iterator.ensures.into_iter_gives c.loop-item.yielded c.loop-item.yielded_by c.next.result
    c.next.ensures.steps c.in-Some.item c.in-Some.is c.deref.result.now c.deref.ensures in
    let told = item_all (whole_octets g.T.ToDer.writing) xs
    (length c.loop-item.yielded) c.deref.result.now at.0 at.1 g.T.ToDer.writing.tells t in
    inl (MayRefuse_item_sum (whole_octets g.T.ToDer.writing) xs (length c.loop-item.yielded) c.deref.result.now at.0
    at.1 _ (whole_allocates g.T.ToDer.writing) (c.loop-item.invariant.2 xs i t).0 (c.in-Ok.ensures.wrote told) (
      refl,
      omega (arith, c.in-None-checked_add.ensures),
    ))

pub loop-item-preserved : goal.loop-item-preserved
loop-item-preserved g c = (
  (c.in-Some.ensures.goes.on c.loop-item.invariant.1).0,
  (c.in-Some.ensures.goes.on c.loop-item.invariant.1).1,
  λ xs i t.
      let at = item_given i c.into_iter-item-iterator.result c.loop-item.item-iterator c.next.new.self
      c.into_iter-item-iterator.ensures.into_iter_gives c.loop-item.yielded c.loop-item.yielded_by c.next.result
      c.next.ensures.steps c.in-Some.item c.in-Some.is c.deref.result.now c.deref.ensures in
      let told = item_all (whole_octets g.T.ToDer.writing) xs
      (length c.loop-item.yielded) c.deref.result.now at.0 at.1 g.T.ToDer.writing.tells t in
      rw (one_longer c.loop-item.yielded c.in-Some.item) (
        Wrote_next (whole_octets g.T.ToDer.writing) xs (length c.loop-item.yielded) c.deref.result.now at.0 at.1
            (c.loop-item.invariant.2 xs i t).0 (c.in-Ok.ensures.wrote told) c.in-Some-checked_add.ensures.1,
        none_more (whole_refuses g.T.ToDer.writing) xs (length c.loop-item.yielded) c.deref.result.now at.0 at.1
            (c.loop-item.invariant.2 xs i t).1 (neither_refuses _ _
            (g.T.ToDer.writing.header_refuses c.deref.result.now) (g.T.ToDer.writing.content_refuses c.deref.result.now)
            _ _ _ (λ e. c.in-Ok.ensures.at_once e told) (λ e. c.in-Ok.ensures.accepted e told)),
        none_more g.T.ToDer.writing.count_refuses xs (length c.loop-item.yielded) c.deref.result.now at.0 at.1
            (c.loop-item.invariant.2 xs i t).2 (λ e o. false≢true (c.in-Ok.ensures.uncounted e told o)),
      ),
)

pub returns-clause-wrote : goal.returns-clause-wrote
returns-clause-wrote g c = λ xs i t.
    subst (λ ks. Wrote (flat_map (whole_octets g.T.ToDer.writing) ks) (g.W.DerWrite.state c.args.w.now)
    (g.W.DerWrite.state c.loop-item.w) (Ok c.loop-item.total))
    (take_all (length c.loop-item.yielded) xs (all_given i c.into_iter-item-iterator.result
    c.loop-item.item-iterator c.next.new.self c.into_iter-item-iterator.ensures.into_iter_gives c.loop-item.yielded
    c.loop-item.yielded_by c.next.result c.next.ensures.steps c.in-None.is)) (c.loop-item.invariant.2 xs i t).0

pub returns-clause-accepted : goal.returns-clause-accepted
returns-clause-accepted g c = λ xs e i t o. absurd (none_of_all (whole_refuses g.T.ToDer.writing) xs
    (length c.loop-item.yielded) (all_given i c.into_iter-item-iterator.result c.loop-item.item-iterator c.next.new.self
    c.into_iter-item-iterator.ensures.into_iter_gives c.loop-item.yielded c.loop-item.yielded_by c.next.result
    c.next.ensures.steps c.in-None.is) (c.loop-item.invariant.2 xs i t).1 e o)

pub returns-clause-uncounted : goal.returns-clause-uncounted
returns-clause-uncounted g c = λ xs e i t o. absurd (none_of_all g.T.ToDer.writing.count_refuses xs
    (length c.loop-item.yielded) (all_given i c.into_iter-item-iterator.result c.loop-item.item-iterator c.next.new.self
    c.into_iter-item-iterator.ensures.into_iter_gives c.loop-item.yielded c.loop-item.yielded_by c.next.result
    c.next.ensures.steps c.in-None.is) (c.loop-item.invariant.2 xs i t).2 e o)
