use Rattle.asn1_rs.proofs.asn1_types.set.set_of.SetOfWritesAscending.prepend_each.Goals as goal

pub returns-clause-accepted : goal.returns-clause-accepted
returns-clause-accepted g c = λ e t o.
    c.prepend_set.ensures.accepted e (rw c.as_slice.ensures t) (rw c.as_slice.ensures o)

pub returns-clause-uncounted : goal.returns-clause-uncounted
returns-clause-uncounted g c = λ e t o.
    c.prepend_set.ensures.uncounted e (rw c.as_slice.ensures t) (rw c.as_slice.ensures o)
