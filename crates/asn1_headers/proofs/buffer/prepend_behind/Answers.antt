use Rattle.asn1_headers.proofs.buffer.prepend_behind.Goals as goal

pub returns-clause-prepended : goal.returns-clause-prepended
returns-clause-prepended c = rw c.answered.ensures c.put_behind.ensures.prepended

pub returns-clause-refused : goal.returns-clause-refused
returns-clause-refused c = rw c.answered.ensures c.put_behind.ensures.refused
