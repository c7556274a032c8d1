use Rattle.std.proofs.Common.{true, ◌++◌, ◌≤◌, length, length-append, arith}
use Rattle.x690.specs.Strict.{header_octets}
use Rattle.asn1_rs.proofs.Lists.{MayRefuseCount_more}
use Rattle.asn1_rs.proofs.Writing.{element_refused}
use Rattle.asn1_rs.proofs.asn1_types.tagged.explicit_value.TaggedValueExplicitToDer.to_der_len.Goals as goal
use Rattle.asn1_rs.specs.ToDer.{whole_octets}

pub returns-clause-refused : goal.returns-clause-refused
returns-clause-refused g c = λ t.
    let joined = whole_octets g.T.ToDer.writing c.args.self.now.inner in
    let shorter : length joined ≤ length (header_octets g.row.CLASS true g.row.TAG (length joined) ++ joined) =
    simp length-append (omega arith) in
    element_refused g.T.ToDer.writing.count_allocates _ _ (g.T.ToDer.writing.count_refuses c.args.self.now.inner)
    c.to_der_len.result c.element_len.result (c.to_der_len.ensures.refused t) (c.element_len.ensures.why
    g.T.ToDer.writing.count_allocates g.row.CLASS true joined (c.to_der_len.ensures.count t))
    (λ e m. MayRefuseCount_more e g.T.ToDer.writing.count_allocates _ _ shorter m) c.element_len.ensures.refused
