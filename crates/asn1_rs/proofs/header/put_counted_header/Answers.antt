use Rattle.std.proofs.Common.{false}
use Rattle.asn1_rs.proofs.Writing.{may_keep}
use Rattle.asn1_rs.proofs.header.put_counted_header.Goals as goal

pub returns-in-Ok-clause-why : goal.returns-in-Ok-clause-why
returns-in-Ok-clause-why g c = λ allocates front content _. c.put_header.ensures.failed allocates _

pub returns-in-Ok-clause-kept : goal.returns-in-Ok-clause-kept
returns-in-Ok-clause-kept g c = may_keep _ _ _ _ (c.put_header.ensures.failed false 0)
