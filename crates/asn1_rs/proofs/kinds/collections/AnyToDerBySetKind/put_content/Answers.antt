use Rattle.asn1_rs.proofs.OnlyItem.{only_told, only_content, only_refused}
use Rattle.asn1_rs.proofs.kinds.collections.AnyToDerBySetKind.put_content.Goals as goal
use Rattle.asn1_rs.specs.ToDer.{whole_octets, whole_refuses}

pub returns-in-Some-clause-wrote : goal.returns-in-Some-clause-wrote
returns-in-Some-clause-wrote g c = λ t.
    let xs = g.L.Listed.items c.args.self.now in
    rw (only_content xs c.in-Some.item.now c.in-Some.ensures (whole_octets g.T.ToDer.writing))
    (c.write_der.ensures.wrote (only_told xs c.in-Some.item.now c.in-Some.ensures g.T.ToDer.writing.tells t))

pub returns-in-Some-clause-refused : goal.returns-in-Some-clause-refused
returns-in-Some-clause-refused g c = λ t.
    let xs = g.L.Listed.items c.args.self.now in
    only_refused xs c.in-Some.item.now c.in-Some.ensures (whole_octets g.T.ToDer.writing)
    (whole_refuses g.T.ToDer.writing) _ c.write_der.result
    (c.write_der.ensures.refused (only_told xs c.in-Some.item.now c.in-Some.ensures g.T.ToDer.writing.tells t))
