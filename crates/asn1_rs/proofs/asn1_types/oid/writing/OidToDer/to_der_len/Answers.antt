use Rattle.std.proofs.Common.{false, length, ◌++◌, ap}
use Rattle.asn1_rs.specs.Oid.{oid_header, oid_octets}
use Rattle.asn1_rs.proofs.Writing.{only_may_count}
use Rattle.asn1_rs.proofs.asn1_types.oid.writing.OidToDer.to_der_len.Goals as goal

pub returns-clause-refused : goal.returns-clause-refused
returns-clause-refused c =
    let x = c.args.self.now in
    λ _. only_may_count c.element_len.result false (length (oid_header x ++ oid_octets x)) (λ _. ⊥)
    (rw (← c.written_tag.ensures)
    (c.element_len.ensures.why false 0 false (oid_octets x) (ap length c.as_bytes.ensures) tt))
