use Rattle.std.proofs.lemmas.Result.{err_from_is_err_and}
use Rattle.asn1_headers.specs.Laws.Writing.{Wrote_front, Wrote_then_err}
use Rattle.asn1_headers.proofs.header.writing.put_parts.Goals as goal

pub returns-in_err-before-clause-wrote : goal.returns-in_err-before-clause-wrote
returns-in_err-before-clause-wrote g c =
    let p = err_from_is_err_and c.from_residual.result c.from_residual.ensures.1 in
    rw (p.1, p.2) (Wrote_front _ c.in_err-before.ensures.wrote)

pub returns-in_err-after-clause-wrote : goal.returns-in_err-after-clause-wrote
returns-in_err-after-clause-wrote g c =
    let p = err_from_is_err_and c.from_residual-in_err-after.result c.from_residual-in_err-after.ensures.1 in
    rw (p.1, p.2) (Wrote_then_err c.in_ok-before.ensures.wrote c.in_err-after.ensures.wrote)

pub returns-in_err-after-clause-failed : goal.returns-in_err-after-clause-failed
returns-in_err-after-clause-failed g c = λ takes most.
    let p = err_from_is_err_and c.from_residual-in_err-after.result c.from_residual-in_err-after.ensures.1 in
    rw (p.1, p.2) (c.in_err-after.ensures.failed takes most)
