use Rattle.x509_name.proofs.Writing.{own_not_put}
use Rattle.x509_name.proofs.relative_name.RelativeDistinguishedNameToDer.prepend_der_content.Goals as goal

pub returns-in-Err-clause-prepended : goal.returns-in-Err-clause-prepended
returns-in-Err-clause-prepended c = λ t. rw c.refusal_of_count.ensures (own_not_put _ _ _)
