use Rattle.std.proofs.Common.{arith}
use Rattle.asn1_rs.specs.ToDer.{WrittenRefusal, whole_octets}
use Rattle.asn1_rs.proofs.Writing.{counted_refused, counted_at_once, class_refused, class_at_once}
use Rattle.asn1_rs.proofs.asn1_types.tagged.explicit_value.TaggedValueExplicitToDer.write_der_header.Goals as goal

pub returns-clause-wrote : goal.returns-clause-wrote
returns-clause-wrote g c = λ t. c.put_counted_header.ensures.wrote _ (c.to_der_len.ensures.count t)

pub returns-clause-refused : goal.returns-clause-refused
returns-clause-refused g c = λ t.
    let joined = whole_octets g.T.ToDer.writing c.args.self.now.inner in
    class_refused g.row.CLASS _ _ (WrittenRefusal (g.T.ToDer.writing.count_refuses c.args.self.now.inner))
    c.put_counted_header.result (omega arith)
    (counted_refused g.T.ToDer.writing.count_allocates _ joined
    (g.T.ToDer.writing.count_refuses c.args.self.now.inner) c.to_der_len.result c.put_counted_header.result _ _
    (c.to_der_len.ensures.refused t) (c.put_counted_header.ensures.why g.T.ToDer.writing.count_allocates _ joined)
    c.put_counted_header.ensures.refused)

pub returns-clause-at_once : goal.returns-clause-at_once
returns-clause-at_once g c = λ e t o.
    let joined = whole_octets g.T.ToDer.writing c.args.self.now.inner in
    class_at_once g.row.CLASS _ _ (WrittenRefusal (g.T.ToDer.writing.count_refuses c.args.self.now.inner)) _ _
    c.put_counted_header.result (omega arith)
    (counted_at_once g.T.ToDer.writing.count_allocates _ joined (g.T.ToDer.writing.count_refuses c.args.self.now.inner)
    c.to_der_len.result c.put_counted_header.result _ _ (c.to_der_len.ensures.refused t)
    (λ e. c.to_der_len.ensures.accepted e t) c.put_counted_header.ensures.refused) e o
