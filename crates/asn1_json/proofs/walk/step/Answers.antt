use Rattle.asn1_json.proofs.SameErrors.{same_error}
use Rattle.asn1_json.proofs.walk.step.Goals as goal

pub returns-in_err-items-clause-none : goal.returns-in_err-items-clause-none
returns-in_err-items-clause-none g c = λ is.
    c.in_err-items.ensures.none (same_error c.from_residual.result _ _ c.from_residual.ensures.1 is)
