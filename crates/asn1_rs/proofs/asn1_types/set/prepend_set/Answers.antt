use Rattle.std.proofs.Common.{◌∙◌, ◌++◌, ap, sym, refl, map}
use Rattle.std.proofs.lemmas.Bool.{false≢true}
use Rattle.x690.specs.Laws.Ascending.Arranged.{arranged_length}
use Rattle.asn1_headers.specs.Laws.Prepending.{Prepended_refused}
use Rattle.asn1_rs.specs.Laws.Lists.{joined_flat}
use Rattle.asn1_rs.specs.ToDer.{whole_octets, whole_refuses}
use Rattle.asn1_rs.proofs.Prepending.{vector_of_items, item_of_vector, kept_back, may_put}
use Rattle.asn1_rs.proofs.asn1_types.set.prepend_set.Goals as goal

pub returns-in_default-clause-prepended : goal.returns-in_default-clause-prepended
returns-in_default-clause-prepended g c = λ _. Prepended_refused _ _ _ _ refl refl

pub returns-in-Ok-prepend_and_count-clause-prepended : goal.returns-in-Ok-prepend_and_count-clause-prepended
returns-in-Ok-prepend_and_count-clause-prepended g c = λ t.
    let f = whole_octets g.T.ToDer.writing in
    let put = (c.in-Ok-prepend_and_count.ensures.prepended t).ok.0
    ∙ ap (λ z. z ++ c.args.buf.now) (sym (joined_flat f c.args.items.now)) in
    c.arrange_front.ensures.prepended (map f c.args.items.now) c.args.buf.now put
    (c.in-Ok-prepend_and_count.ensures.counted t) c.len-held.ensures

pub returns-in-Ok-prepend_and_count-clause-refused : goal.returns-in-Ok-prepend_and_count-clause-refused
returns-in-Ok-prepend_and_count-clause-refused g c = λ t.
    let f = whole_octets g.T.ToDer.writing in
    let put = (c.in-Ok-prepend_and_count.ensures.prepended t).ok.0
    ∙ ap (λ z. z ++ c.args.buf.now) (sym (joined_flat f c.args.items.now)) in
    may_put c.arrange_front.result _ _ (c.arrange_front.ensures.refused (map f c.args.items.now) c.args.buf.now put
    (c.in-Ok-prepend_and_count.ensures.counted t) c.len-held.ensures)

pub returns-in-Ok-prepend_and_count-clause-accepted : goal.returns-in-Ok-prepend_and_count-clause-accepted
returns-in-Ok-prepend_and_count-clause-accepted g c = λ e t o.
    let of = item_of_vector e c.args.items.now (whole_refuses g.T.ToDer.writing) o in
    absurd (false≢true (c.in-Ok-prepend_and_count.ensures.accepted of.0 t of.1))

pub returns-in-Ok-prepend_and_count-clause-uncounted : goal.returns-in-Ok-prepend_and_count-clause-uncounted
returns-in-Ok-prepend_and_count-clause-uncounted g c = λ e t o.
    absurd (false≢true (c.in-Ok-prepend_and_count.ensures.uncounted e t o))

pub returns-clause-prepended : goal.returns-clause-prepended
returns-clause-prepended g c = λ t.
    let put = c.in-Err.ensures.prepended t in
    Prepended_refused _ _ _ _
    (kept_back put.err.rest c.args.buf.now _ _ _ put.err.grown c.len-held.ensures c.keep_last.ensures) put.memory

pub returns-clause-refused : goal.returns-clause-refused
returns-clause-refused g c = λ t.
    rw (arranged_length (whole_octets g.T.ToDer.writing) c.args.items.now)
    (vector_of_items c.in-Err.e _ c.args.items.now (whole_refuses g.T.ToDer.writing) (c.in-Err.ensures.refused t))
