use Rattle.std.proofs.lemmas.Result.{err_from_is_err_and}
use Rattle.asn1_headers.specs.Laws.Prepending.{Prepended_last}
use Rattle.asn1_rs.proofs.to_der.ToDer.prepend_der.Goals as goal

pub returns-in_err-after-clause-prepended : goal.returns-in_err-after-clause-prepended
returns-in_err-after-clause-prepended g c = λ t.
    let p = err_from_is_err_and c.from_residual.result c.from_residual.ensures.1 in
    rw (p.1, p.2) (Prepended_last (g.Self.ToDer.writing.header c.args.self.now) (c.in_err-after.ensures.prepended t))
