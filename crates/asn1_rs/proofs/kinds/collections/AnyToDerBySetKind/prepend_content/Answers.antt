use Rattle.asn1_rs.proofs.OnlyItem.{only_told, only_content, only_put}
use Rattle.asn1_rs.specs.ToDer.{whole_octets, whole_refuses}
use Rattle.asn1_rs.proofs.kinds.collections.AnyToDerBySetKind.prepend_content.Goals as goal

pub returns-in-Some-clause-prepended : goal.returns-in-Some-clause-prepended
returns-in-Some-clause-prepended g c = λ t.
    let xs = g.L.Listed.items c.args.self.now in
    rw (only_content xs c.in-Some.item.now c.in-Some.ensures (whole_octets g.T.ToDer.writing))
    (c.prepend_der.ensures.prepended (only_told xs c.in-Some.item.now c.in-Some.ensures g.T.ToDer.writing.tells t))

pub returns-in-Some-clause-refused : goal.returns-in-Some-clause-refused
returns-in-Some-clause-refused g c = λ t.
    let xs = g.L.Listed.items c.args.self.now in
    only_put xs c.in-Some.item.now c.in-Some.ensures (whole_octets g.T.ToDer.writing)
    (whole_refuses g.T.ToDer.writing) _ c.prepend_der.result
    (c.prepend_der.ensures.refused (only_told xs c.in-Some.item.now c.in-Some.ensures g.T.ToDer.writing.tells t))
