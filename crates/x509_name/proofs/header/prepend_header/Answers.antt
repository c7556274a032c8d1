use Rattle.std.proofs.Common.{◌≡◌, ◌∙◌, ap, true, ℕ, [], ◌++◌, length, append-nil, Err}
use Rattle.std.proofs.lemmas.Result.{err_from_is_err_and}
use Rattle.x690.specs.Strict.{header_octets}
use Rattle.asn1_headers.specs.Header.Writing.{strict_header}
use Rattle.asn1_headers.specs.Laws.Prepending.{Prepended_all, Prepended_first}
use Rattle.x509_name.proofs.Headers.{put_same}
use Rattle.x509_name.proofs.header.prepend_header.Goals as goal

pub returns-in_err-before-clause-prepended : goal.returns-in_err-before-clause-prepended
returns-in_err-before-clause-prepended c = λ content old is n.
    let p = err_from_is_err_and c.from_residual.result c.from_residual.ensures.1 in
    let same : strict_header c.header.result ++ [] ≡ header_octets 0 true c.args.tag.0 (length content) =
    append-nil (strict_header c.header.result) ∙ c.header.ensures
    ∙ ap (λ (k : ℕ). header_octets 0 true c.args.tag.0 k) n in
    rw (p.1, p.2) (Prepended_first (Prepended_all n is) (put_same (strict_header c.header.result ++ [])
    (header_octets 0 true c.args.tag.0 (length content)) c.args.buf.now c.prepend_der.new.buf (Err
    c.in_err-before.field-0.0)
    same (c.in_err-before.ensures.prepended tt)))
