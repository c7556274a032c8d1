use Rattle.std.proofs.Common.{◌≡◌, ◌++◌, ◌∙◌, ap, sym, subst, refl, inl, true, [], ◌∷◌, length, map, take}
use Rattle.std.specs.List.{flat_map}
use Rattle.std.proofs.lemmas.Bool.{false≢true}
use Rattle.std.proofs.lemmas.List.{map_more, map-append, take_all}
use Rattle.asn1_rs.specs.ToDer.{HasNone, IntoVector, RefusesAtOnce, whole_allocates, whole_octets, whole_refuses}
use Rattle.asn1_headers.specs.Error.{vector_refusal}
use Rattle.asn1_rs.specs.Laws.Lists.{joined_flat}
use Rattle.asn1_rs.specs.Laws.Set.{none_into}
use Rattle.asn1_rs.proofs.Lists.{item_given, all_given, one_longer, item_all, item_next, only_first, Refuses_item}
use Rattle.asn1_rs.proofs.Lists.{none_more, none_of_all}
use Rattle.asn1_rs.proofs.Writing.{vector_refuses, neither_refuses, at_once_into}
use Rattle.asn1_rs.proofs.asn1_types.lists.encode_items.Goals as goal

pub returns-in-Err-clause-refused : goal.returns-in-Err-clause-refused
returns-in-Err-clause-refused g c = λ xs i t.
    let at = item_given i c.into_iter-item-iterator.result c.loop-item.item-iterator c.next.new.self
    c.into_iter-item-iterator.ensures.into_iter_gives c.loop-item.yielded c.loop-item.yielded_by c.next.result
    c.next.ensures.steps c.in-Some.item c.in-Some.is c.deref.result.now c.deref.ensures in
    let told = item_all (whole_octets g.T.ToDer.writing) xs
    (length c.loop-item.yielded) c.deref.result.now at.0 at.1 g.T.ToDer.writing.tells t in
    Refuses_item (whole_octets g.T.ToDer.writing) xs (length c.loop-item.yielded) c.deref.result.now at.0 at.1
    c.without_io.result true (λ x. IntoVector (whole_refuses g.T.ToDer.writing x))
    (vector_refuses c.in-Err.e c.without_io.result _ _ (whole_refuses g.T.ToDer.writing c.deref.result.now)
    c.without_io.ensures.refused c.without_io.ensures.same (c.in-Err.ensures.refused told))

pub loop-item-preserved : goal.loop-item-preserved
loop-item-preserved g c = (
  (c.in-Some.ensures.goes.on c.loop-item.invariant.1).0,
  (c.in-Some.ensures.goes.on c.loop-item.invariant.1).1,
  λ xs i t.
      let at = item_given i c.into_iter-item-iterator.result c.loop-item.item-iterator c.next.new.self
      c.into_iter-item-iterator.ensures.into_iter_gives c.loop-item.yielded c.loop-item.yielded_by c.next.result
      c.next.ensures.steps c.in-Some.item c.in-Some.is c.deref.result.now c.deref.ensures in
      let told = item_all (whole_octets g.T.ToDer.writing) xs
      (length c.loop-item.yielded) c.deref.result.now at.0 at.1 g.T.ToDer.writing.tells t in
      let wrote = (c.in-Ok.ensures.wrote told).ok in
      rw (one_longer c.loop-item.yielded c.in-Some.item) (
        rw (item_next (whole_octets g.T.ToDer.writing) xs (length c.loop-item.yielded) c.deref.result.now at.0 at.1)
            (wrote.0
            ∙ ap (λ o. o ++ (whole_octets g.T.ToDer.writing c.deref.result.now)) (c.loop-item.invariant.2 xs i t).0),
        rw c.in-Ok-push.ensures.items
            (rw (map_more (whole_octets g.T.ToDer.writing) xs (length c.loop-item.yielded) c.deref.result.now at.0) (rw
            (map-append length (map (whole_octets g.T.ToDer.writing) (take (length c.loop-item.yielded) xs)) (_ ∷ []))
            (rw (← at.1) (rw (
              (c.loop-item.invariant.2 xs i t).1,
              wrote.1,
            ) refl)))),
        none_more (λ x. IntoVector (whole_refuses g.T.ToDer.writing x)) xs (length c.loop-item.yielded)
            c.deref.result.now at.0 at.1 (c.loop-item.invariant.2 xs i t).2 (none_into _ (neither_refuses _ _
            (g.T.ToDer.writing.header_refuses c.deref.result.now) (g.T.ToDer.writing.content_refuses c.deref.result.now)
            _ _ _ (λ e. c.in-Ok.ensures.at_once e told) (λ e. c.in-Ok.ensures.accepted e told))),
        none_more g.T.ToDer.writing.count_refuses xs (length c.loop-item.yielded) c.deref.result.now at.0 at.1
            (c.loop-item.invariant.2 xs i t).3 (λ e o. false≢true (c.in-Ok.ensures.uncounted e told o)),
      ),
)

pub returns-clause-each : goal.returns-clause-each
returns-clause-each g c = λ xs i t.
    let all = take_all (length c.loop-item.yielded) xs (all_given i c.into_iter-item-iterator.result
    c.loop-item.item-iterator c.next.new.self c.into_iter-item-iterator.ensures.into_iter_gives c.loop-item.yielded
    c.loop-item.yielded_by c.next.result c.next.ensures.steps c.in-None.is) in (
      ap (λ w. w.octets.items) c.into_inner-octets.ensures ∙ (c.loop-item.invariant.2 xs i t).0
          ∙ ap (flat_map (whole_octets g.T.ToDer.writing)) all ∙ sym (joined_flat (whole_octets g.T.ToDer.writing) xs),
      (c.loop-item.invariant.2 xs i t).1 ∙ ap (λ ks. map length (map (whole_octets g.T.ToDer.writing) ks)) all,
    )

pub returns-clause-accepted : goal.returns-clause-accepted
returns-clause-accepted g c = λ xs e i t o. absurd (none_of_all (λ x. IntoVector (whole_refuses g.T.ToDer.writing x)) xs
    (length c.loop-item.yielded) (all_given i c.into_iter-item-iterator.result c.loop-item.item-iterator c.next.new.self
    c.into_iter-item-iterator.ensures.into_iter_gives c.loop-item.yielded c.loop-item.yielded_by c.next.result
    c.next.ensures.steps c.in-None.is) (c.loop-item.invariant.2 xs i t).2 e o)

pub returns-clause-uncounted : goal.returns-clause-uncounted
returns-clause-uncounted g c = λ xs e i t o. absurd (none_of_all g.T.ToDer.writing.count_refuses xs
    (length c.loop-item.yielded) (all_given i c.into_iter-item-iterator.result c.loop-item.item-iterator c.next.new.self
    c.into_iter-item-iterator.ensures.into_iter_gives c.loop-item.yielded c.loop-item.yielded_by c.next.result
    c.next.ensures.steps c.in-None.is) (c.loop-item.invariant.2 xs i t).3 e o)

pub returns-in-Err-clause-at_once : goal.returns-in-Err-clause-at_once
returns-in-Err-clause-at_once g c = λ x xs e i t o.
    let at = item_given i c.into_iter-item-iterator.result c.loop-item.item-iterator c.next.new.self
    c.into_iter-item-iterator.ensures.into_iter_gives c.loop-item.yielded c.loop-item.yielded_by c.next.result
    c.next.ensures.steps c.in-Some.item c.in-Some.is c.deref.result.now c.deref.ensures in
    let told = item_all (whole_octets g.T.ToDer.writing) (x ∷ xs)
    (length c.loop-item.yielded) c.deref.result.now at.0 at.1 g.T.ToDer.writing.tells t in
    let one : c.deref.result.now ≡ x =
    only_first (λ z. HasNone (IntoVector (whole_refuses g.T.ToDer.writing z))) x xs (length c.loop-item.yielded)
    c.deref.result.now at.1 (c.loop-item.invariant.2 (x ∷ xs) i t).2 (λ n. n (vector_refusal e) (e, inl o, refl)) in
    subst (λ z. IntoVector (RefusesAtOnce (whole_allocates g.T.ToDer.writing)
    (length (whole_octets g.T.ToDer.writing z)) (whole_refuses g.T.ToDer.writing z)) c.without_io.result) one
    (at_once_into _ _ _ _ _ c.in-Err.e c.without_io.result c.without_io.ensures.same
    (c.in-Err.ensures.at_once e told (subst (λ z. g.T.ToDer.writing.header_refuses z e) (sym one) o)))

pub returns-in-Err-push-clause-at_once : goal.returns-in-Err-push-clause-at_once
returns-in-Err-push-clause-at_once g c = λ x xs e i t o.
    let at = item_given i c.into_iter-item-iterator.result c.loop-item.item-iterator c.next.new.self
    c.into_iter-item-iterator.ensures.into_iter_gives c.loop-item.yielded c.loop-item.yielded_by c.next.result
    c.next.ensures.steps c.in-Some.item c.in-Some.is c.deref.result.now c.deref.ensures in
    let told = item_all (whole_octets g.T.ToDer.writing) (x ∷ xs)
    (length c.loop-item.yielded) c.deref.result.now at.0 at.1 g.T.ToDer.writing.tells t in
    let one : c.deref.result.now ≡ x =
    only_first (λ z. HasNone (IntoVector (whole_refuses g.T.ToDer.writing z))) x xs (length c.loop-item.yielded)
    c.deref.result.now at.1 (c.loop-item.invariant.2 (x ∷ xs) i t).2 (λ n. n (vector_refusal e) (e, inl o, refl)) in
    absurd (neither_refuses _ _ (g.T.ToDer.writing.header_refuses c.deref.result.now)
    (g.T.ToDer.writing.content_refuses c.deref.result.now) _ _ _ (λ f. c.in-Ok.ensures.at_once f told)
    (λ f. c.in-Ok.ensures.accepted f told) e (inl (subst (λ z. g.T.ToDer.writing.header_refuses z e) (sym one) o)))
