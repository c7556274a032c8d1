use Rattle.std.proofs.Common.{◌∙◌, ap, inl, inr, refl}
use Rattle.x509_name.specs.RelativeName.{attributes}
use Rattle.x509_name.proofs.Writing.{own_kept}
use Rattle.x509_name.proofs.name.NameToDer.write_der_content.Goals as goal

pub returns-in-Err-clause-wrote : goal.returns-in-Err-clause-wrote
returns-in-Err-clause-wrote g c = λ t. rw c.refusal_of_count.ensures (own_kept c.in-Err.e _ _)

pub returns-in-Err-clause-refused : goal.returns-in-Err-clause-refused
returns-in-Err-clause-refused g c = λ t.
    let o = c.in-Err.ensures in
    rw c.refusal_of_count.ensures (inr (o.0, o.1, o.2, o.3, inl (c.in-Err.e, o.4, refl)))

pub returns-in-Err-clause-at_once : goal.returns-in-Err-clause-at_once
returns-in-Err-clause-at_once g c = λ empty.
    rw c.refusal_of_count.ensures (c.in-Err.e, c.in-Err.ensures.4.1, record { refused = refl; kept = refl })

pub returns-clause-at_once : goal.returns-clause-at_once
returns-clause-at_once g c = λ o. absurd (c.in_default.ensures o.0 o.1 o.2 (ap attributes o.3 ∙ o.4))
