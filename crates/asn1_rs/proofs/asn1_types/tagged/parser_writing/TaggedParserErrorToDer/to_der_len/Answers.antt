use Rattle.std.proofs.Common.{◌++◌, ◌≤◌, length, length-append, arith}
use Rattle.x690.specs.Strict.{header_octets}
use Rattle.asn1_headers.specs.Class.{class_number}
use Rattle.asn1_headers.specs.Header.{class_of}
use Rattle.asn1_rs.proofs.Lists.{MayRefuseCount_more}
use Rattle.asn1_rs.proofs.Writing.{element_refused}
use Rattle.asn1_rs.proofs.asn1_types.tagged.parser_writing.TaggedParserErrorToDer.to_der_len.Goals as goal

pub returns-clause-refused : goal.returns-clause-refused
returns-clause-refused g c = rw (← c.tag.ensures) (λ t.
    let class = class_number (class_of c.args.self.now.header) in
    let constructed = g.Kind.PutsUnder.under.bit c.args.self.now.inner in
    let octets = g.Kind.PutsUnder.under.octets c.args.self.now.inner in
    let shorter : length octets ≤ length (header_octets class constructed c.tag.result.0 (length octets) ++ octets) =
    simp length-append (omega arith) in
    element_refused g.T.ToDer.writing.count_allocates _ _ (g.T.ToDer.writing.count_refuses c.args.self.now.inner)
    c.count_octets.result c.element_len.result (c.count_octets.ensures.refused t) (c.element_len.ensures.why
    g.T.ToDer.writing.count_allocates class constructed octets (c.count_octets.ensures.count t))
    (λ e m. MayRefuseCount_more e g.T.ToDer.writing.count_allocates _ _ shorter m) c.element_len.ensures.refused)
