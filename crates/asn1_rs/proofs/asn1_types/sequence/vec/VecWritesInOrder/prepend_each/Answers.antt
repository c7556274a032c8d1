use Rattle.asn1_rs.proofs.asn1_types.sequence.vec.VecWritesInOrder.prepend_each.Goals as goal

pub returns-clause-accepted : goal.returns-clause-accepted
returns-clause-accepted g c = λ e t o.
    c.prepend_items.ensures.accepted e (rw c.as_slice.ensures.value t) (rw c.as_slice.ensures.value o)

pub returns-clause-uncounted : goal.returns-clause-uncounted
returns-clause-uncounted g c = λ e t o.
    c.prepend_items.ensures.uncounted e (rw c.as_slice.ensures.value t) (rw c.as_slice.ensures.value o)
