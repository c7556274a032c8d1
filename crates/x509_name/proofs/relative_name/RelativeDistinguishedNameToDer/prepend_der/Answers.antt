use Rattle.std.proofs.Common.{length, true}
use Rattle.std.proofs.lemmas.Result.{err_from_is_err_and}
use Rattle.x690.specs.Strict.{header_octets}
use Rattle.asn1_headers.specs.Laws.Prepending.{Prepended_last}
use Rattle.x509_name.specs.RelativeName.{relative_name_content}
use Rattle.x509_name.proofs.relative_name.RelativeDistinguishedNameToDer.prepend_der.Goals as goal

pub returns-in_err-after-clause-prepended : goal.returns-in_err-after-clause-prepended
returns-in_err-after-clause-prepended c = λ t.
    let p = err_from_is_err_and c.from_residual.result c.from_residual.ensures.1 in
    rw (p.1, p.2) (Prepended_last (header_octets 0 true 17 (length (relative_name_content c.args.self.now)))
    (c.in_err-after.ensures.prepended tt))
