use Rattle.asn1_headers.specs.Laws.Prepending.{Prepended_put, put_may}
use Rattle.asn1_headers.proofs.buffer.prepend_octets.Goals as goal

pub returns-clause-prepended : goal.returns-clause-prepended
returns-clause-prepended c = rw c.answered.ensures (Prepended_put _ _ _ _ c.put.ensures)

pub returns-clause-refused : goal.returns-clause-refused
returns-clause-refused c = rw c.answered.ensures (put_may _ _ _ _ c.put.ensures)
