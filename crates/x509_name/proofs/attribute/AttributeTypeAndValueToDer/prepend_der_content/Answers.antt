use Rattle.std.proofs.lemmas.Result.{err_from_is_err_and}
use Rattle.asn1_headers.specs.Laws.Prepending.{Prepended_first, Prepended_last, Prepended_sum}
use Rattle.asn1_rs.specs.Oid.{oid_writing}
use Rattle.asn1_rs.specs.ToDer.{whole_octets}
use Rattle.x509_name.proofs.attribute.AttributeTypeAndValueToDer.prepend_der_content.Goals as goal

pub returns-in_err-value-clause-prepended : goal.returns-in_err-value-clause-prepended
returns-in_err-value-clause-prepended c = λ t.
    let p = err_from_is_err_and c.from_residual.result c.from_residual.ensures.1 in
    rw (p.1, p.2) (Prepended_last (whole_octets oid_writing c.args.self.now.oid) (c.in_err-value.ensures.prepended tt))

pub returns-in_err-oid-clause-prepended : goal.returns-in_err-oid-clause-prepended
returns-in_err-oid-clause-prepended c = λ t.
    let p = err_from_is_err_and c.from_residual-in_err-oid.result c.from_residual-in_err-oid.ensures.1 in
    rw (p.1, p.2) (Prepended_first (c.in_ok-value.ensures.prepended tt) (c.in_err-oid.ensures.prepended tt))

pub returns-clause-prepended : goal.returns-clause-prepended
returns-clause-prepended c = λ t. Prepended_sum c.sum_of_written.result (c.in_ok-value.ensures.prepended tt)
    (c.in_ok-oid.ensures.prepended tt) c.sum_of_written.ensures
