use Rattle.asn1_rs.proofs.Writing.{counted_refused, counted_at_once}
use Rattle.asn1_rs.proofs.asn1_types.tagged.parser_writing.TaggedParserErrorToDer.write_der_header.Goals as goal

pub returns-clause-refused : goal.returns-clause-refused
returns-clause-refused g c = λ t.
    let octets = g.Kind.PutsUnder.under.octets c.args.self.now.inner in
    counted_refused g.T.ToDer.writing.count_allocates _ octets (g.T.ToDer.writing.count_refuses c.args.self.now.inner)
    c.count_octets-counted.result c.put_counted_header.result _ _ (c.count_octets-counted.ensures.refused t)
    (c.put_counted_header.ensures.why g.T.ToDer.writing.count_allocates _ octets)
    c.put_counted_header.ensures.refused

pub returns-clause-at_once : goal.returns-clause-at_once
returns-clause-at_once g c = λ e t o.
    let octets = g.Kind.PutsUnder.under.octets c.args.self.now.inner in
    counted_at_once g.T.ToDer.writing.count_allocates _ octets (g.T.ToDer.writing.count_refuses c.args.self.now.inner)
    c.count_octets-counted.result c.put_counted_header.result _ _ (c.count_octets-counted.ensures.refused t)
    (λ f. c.count_octets-counted.ensures.accepted f t) c.put_counted_header.ensures.refused e o
