use Rattle.std.proofs.Common.{◌++◌, ◌≤◌, length, length-append, arith}
use Rattle.x690.specs.Strict.{header_octets}
use Rattle.asn1_rs.proofs.Lists.{MayRefuseCount_more}
use Rattle.asn1_rs.proofs.Writing.{element_refused}
use Rattle.asn1_rs.proofs.asn1_types.tagged.implicit_value.TaggedValueImplicitToDer.to_der_len.Goals as goal

pub returns-clause-refused : goal.returns-clause-refused
returns-clause-refused g c = λ t.
    let content = g.T.ToDer.writing.content c.args.self.now.inner in
    let constructed = g.T.ToDer.writing.constructed c.args.self.now.inner in
    let shorter : length content ≤
    length (header_octets g.row.CLASS constructed g.row.TAG (length content) ++ content) =
    simp length-append (omega arith) in
    element_refused g.T.ToDer.writing.count_allocates _ _ (g.T.ToDer.writing.count_refuses c.args.self.now.inner)
    c.der_content_len.result c.element_len.result (c.der_content_len.ensures.refused t) (c.element_len.ensures.why
    g.T.ToDer.writing.count_allocates g.row.CLASS constructed content (c.der_content_len.ensures.count t))
    (λ e m. MayRefuseCount_more e g.T.ToDer.writing.count_allocates _ _ shorter m) c.element_len.ensures.refused
