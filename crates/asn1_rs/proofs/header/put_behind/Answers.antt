use Rattle.std.proofs.Common.{◌++◌, length, subst, IfErr, false}
use Rattle.std.proofs.lemmas.Result.{err_from_is_err_and}
use Rattle.asn1_headers.specs.Writer.{Wrote, MayRefuse}
use Rattle.asn1_headers.specs.Laws.Writing.{Wrote_front, Wrote_then_err, Wrote_sum, MayRefuse_sum}
use Rattle.asn1_rs.proofs.header.put_behind.Goals as goal

pub returns-in_err-before-clause-wrote : goal.returns-in_err-before-clause-wrote
returns-in_err-before-clause-wrote g c = λ octets before wrote.
    let p = err_from_is_err_and c.from_residual.result c.from_residual.ensures.1 in
    rw (p.1, p.2) (Wrote_front c.args.content.now
    (subst (λ r. Wrote octets before (g.W.DerWrite.state c.args.w.now) r) c.in_err-before.was wrote))

pub returns-in_err-before-clause-failed : goal.returns-in_err-before-clause-failed
returns-in_err-before-clause-failed g c = λ octets before wrote may.
    let p = err_from_is_err_and c.from_residual.result c.from_residual.ensures.1 in
    rw (p.1, p.2)
    (subst (λ r. IfErr r (MayRefuse false (length (octets ++ c.args.content.now)))) c.in_err-before.was may)

pub returns-in_err-after-clause-wrote : goal.returns-in_err-after-clause-wrote
returns-in_err-after-clause-wrote g c = λ octets before wrote.
    let p = err_from_is_err_and c.from_residual-in_err-after.result c.from_residual-in_err-after.ensures.1 in
    rw (p.1, p.2)
    (Wrote_then_err (subst (λ r. Wrote octets before (g.W.DerWrite.state c.args.w.now) r) c.in_ok-before.was wrote)
    c.in_err-after.ensures.wrote)

pub returns-clause-wrote : goal.returns-clause-wrote
returns-clause-wrote g c = λ octets before wrote.
    Wrote_sum _ (subst (λ r. Wrote octets before (g.W.DerWrite.state c.args.w.now) r) c.in_ok-before.was wrote)
    c.in_ok-after.ensures.wrote c.add_written.ensures

pub returns-clause-failed : goal.returns-clause-failed
returns-clause-failed g c = λ octets before wrote may.
    MayRefuse_sum _ _ _ _
    (subst (λ r. Wrote octets before (g.W.DerWrite.state c.args.w.now) r) c.in_ok-before.was wrote)
    c.in_ok-after.ensures.wrote c.add_written.ensures
