use Rattle.std.proofs.lemmas.Result.{err_from_is_err_and}
use Rattle.asn1_rs.proofs.Writing.{Wrote_nothing}
use Rattle.asn1_rs.proofs.structs.writing.AnyToDerByFieldsKind.put_content.Goals as goal

pub returns-in_err-content-clause-wrote : goal.returns-in_err-content-clause-wrote
returns-in_err-content-clause-wrote g c = λ t.
    let p = err_from_is_err_and c.from_residual.result c.from_residual.ensures.1 in
    rw (p.1, p.2) (Wrote_nothing _ _ c.in_err-content.ensures.memory)
