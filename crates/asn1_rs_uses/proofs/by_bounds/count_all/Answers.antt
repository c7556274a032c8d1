use Rattle.std.proofs.Common.{◌∙◌, ap, sym, subst, length, refl}
use Rattle.std.proofs.lemmas.List.{take_all}
use Rattle.std.specs.List.{flat_map}
use Rattle.std.proofs.lemmas.List.{length_push}
use Rattle.asn1_rs_uses.proofs.CountedItems.{item_given, all_given, count_next}
use Rattle.asn1_rs_uses.proofs.by_bounds.count_all.Goals as goal
use Rattle.asn1_rs.specs.ToDer.{whole_octets}

pub loop-item-preserved : goal.loop-item-preserved
loop-item-preserved g c = (
  (c.in-Some.ensures.goes.on c.loop-item.invariant.1).0,
  (c.in-Some.ensures.goes.on c.loop-item.invariant.1).1,
  λ xs i t.
      let at = item_given i c.into_iter-item-iterator.result c.loop-item.item-iterator c.next.new.self
      c.into_iter-item-iterator.ensures.into_iter_gives c.loop-item.yielded c.loop-item.yielded_by c.next.result
      c.next.ensures.steps c.in-Some.item c.in-Some.is c.in-Some.item.now refl in
      let x = c.in-Some.item.now in
      let told = subst g.T.ToDer.writing.tells (sym at.1) (t (length c.loop-item.yielded) x at.0) in
      let sum = rw c.in_ok-all.ensures.ok_part at c.checked_add.ensures in
      rw (length_push c.loop-item.yielded c.in-Some.item) (count_next (whole_octets g.T.ToDer.writing) xs
      (length c.loop-item.yielded) x at.0 at.1 c.loop-item.all c.in_ok-to_der_len.field-0 c.in_ok-all.all
      (c.loop-item.invariant.2 xs i t) (c.in_ok-to_der_len.ensures.count told) sum.1),
)

pub returns : goal.returns
returns g c =
    λ xs i t. c.loop-item.invariant.2 xs i t ∙ ap (λ ks. length (flat_map (whole_octets g.T.ToDer.writing) ks))
    (take_all (length c.loop-item.yielded) xs (all_given i c.into_iter-item-iterator.result c.loop-item.item-iterator
    c.next.new.self c.into_iter-item-iterator.ensures.into_iter_gives c.loop-item.yielded c.loop-item.yielded_by
    c.next.result c.next.ensures.steps c.in-None.is))
