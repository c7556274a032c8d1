use Rattle.std.proofs.Common.{length, true}
use Rattle.std.proofs.lemmas.Result.{err_from_is_err_and}
use Rattle.x690.specs.Strict.{header_octets}
use Rattle.asn1_headers.specs.Laws.Prepending.{Prepended_last}
use Rattle.x509_name.specs.Attribute.{attribute_content}
use Rattle.x509_name.proofs.attribute.AttributeTypeAndValueToDer.prepend_der.Goals as goal

pub returns-in_err-after-clause-prepended : goal.returns-in_err-after-clause-prepended
returns-in_err-after-clause-prepended c = λ t.
    let p = err_from_is_err_and c.from_residual.result c.from_residual.ensures.1 in
    rw (p.1, p.2) (Prepended_last (header_octets 0 true 16 (length (attribute_content c.args.self.now)))
    (c.in_err-after.ensures.prepended tt))

pub returns-clause-prepended : goal.returns-clause-prepended
returns-clause-prepended c = λ t. c.prepend_header.ensures.prepended (attribute_content c.args.self.now) c.args.buf.now
    (c.in_ok-after.ensures.prepended tt).ok.0 (c.in_ok-after.ensures.prepended tt).ok.1
