use Rattle.std.proofs.Common.{refl}
use Rattle.x509_name.proofs.relative_name.RelativeDistinguishedNameToDer.write_der_content.Goals as goal

pub returns-in-Err-clause-at_once : goal.returns-in-Err-clause-at_once
returns-in-Err-clause-at_once g c = λ none.
    rw c.refusal_of_count.ensures (c.in-Err.e, c.in-Err.ensures.1, record { refused = refl; kept = refl })
