use Rattle.std.proofs.Common.{false, length}
use Rattle.asn1_rs.specs.Oid.{oid_writing}
use Rattle.asn1_rs.specs.ToDer.{whole_octets}
use Rattle.asn1_rs.proofs.Writing.{only_may}
use Rattle.asn1_rs.proofs.asn1_types.oid.writing.OidToDer.write_der_header.Goals as goal

pub returns-clause-refused : goal.returns-clause-refused
returns-clause-refused g c = λ _.
    only_may c.put_header.result false (length (whole_octets oid_writing c.args.self.now))
    (oid_writing.header_refuses c.args.self.now) (c.put_header.ensures.failed _ _)
