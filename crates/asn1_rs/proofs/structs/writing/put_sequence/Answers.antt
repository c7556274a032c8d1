use Rattle.std.proofs.Common.{false, arith}
use Rattle.asn1_rs.proofs.Writing.{few_octets}
use Rattle.asn1_rs.proofs.structs.writing.put_sequence.Goals as goal

pub returns-clause-failed : goal.returns-clause-failed
returns-clause-failed g c = c.put_behind.ensures.failed _ _ c.put_header.ensures.wrote
    (c.put_header.ensures.failed false _)

pub returns-clause-fits : goal.returns-clause-fits
returns-clause-fits g c =
    c.put_behind.ensures.fits (few_octets _ 15 16 (omega arith) c.put_header.ensures.few) (c.put_header.ensures.failed false 0)
