use Rattle.std.proofs.lemmas.Result.{err_from_is_err_and}
use Rattle.asn1_headers.specs.Laws.Writing.{Wrote_front, Wrote_sum, Wrote_then_err}
use Rattle.asn1_rs.specs.Any.Writing.{element_writing}
use Rattle.asn1_rs.specs.ToDer.{whole_octets}
use Rattle.x509_name.proofs.attribute.AttributeTypeAndValueToDer.write_der_content.Goals as goal

pub returns-in_err-oid-clause-wrote : goal.returns-in_err-oid-clause-wrote
returns-in_err-oid-clause-wrote g c = λ t.
    let p = err_from_is_err_and c.from_residual.result c.from_residual.ensures.1 in
    rw (p.1, p.2) (Wrote_front (whole_octets element_writing c.args.self.now.value) (c.in_err-oid.ensures.wrote tt))

pub returns-in_err-value-clause-wrote : goal.returns-in_err-value-clause-wrote
returns-in_err-value-clause-wrote g c = λ t.
    let p = err_from_is_err_and c.from_residual-in_err-value.result c.from_residual-in_err-value.ensures.1 in
    rw (p.1, p.2) (Wrote_then_err (c.in_ok-oid.ensures.wrote tt) c.in_err-value.ensures.wrote)

pub returns-clause-wrote : goal.returns-clause-wrote
returns-clause-wrote g c = λ t. Wrote_sum c.sum_of_written.result (c.in_ok-oid.ensures.wrote tt)
    c.in_ok-value.ensures.wrote
    c.sum_of_written.ensures
