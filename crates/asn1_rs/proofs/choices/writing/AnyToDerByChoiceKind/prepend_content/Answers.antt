use Rattle.std.proofs.Common.{refl}
use Rattle.std.proofs.lemmas.Result.{err_from_is_err_and}
use Rattle.asn1_headers.specs.Laws.Prepending.{Prepended_refused}
use Rattle.asn1_rs.proofs.choices.writing.AnyToDerByChoiceKind.prepend_content.Goals as goal

pub returns-in_err-content-clause-prepended : goal.returns-in_err-content-clause-prepended
returns-in_err-content-clause-prepended g c = λ t.
    let p = err_from_is_err_and c.from_residual.result c.from_residual.ensures.1 in
    rw (p.1, p.2) (Prepended_refused _ _ _ _ refl c.in_err-content.ensures.memory)
