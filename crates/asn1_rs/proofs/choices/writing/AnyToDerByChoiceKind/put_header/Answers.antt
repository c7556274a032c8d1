use Rattle.std.proofs.lemmas.Result.{err_from_is_err_and}
use Rattle.asn1_rs.proofs.Writing.{Wrote_nothing}
use Rattle.asn1_rs.proofs.choices.writing.AnyToDerByChoiceKind.put_header.Goals as goal

pub returns-in_err-header-clause-wrote : goal.returns-in_err-header-clause-wrote
returns-in_err-header-clause-wrote g c = λ t.
    let p = err_from_is_err_and c.from_residual.result c.from_residual.ensures.1 in
    rw (p.1, p.2) (Wrote_nothing _ _ c.in_err-header.ensures.memory)
