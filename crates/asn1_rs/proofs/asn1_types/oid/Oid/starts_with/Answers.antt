use Rattle.std.proofs.Common.{Bool, List, ℕ, subst, sym, ◌∙◌}
use Rattle.x690.specs.Arcs.{arcs_of}
use Rattle.x690.specs.Octets.{BeginsWith}
use Rattle.asn1_rs.specs.Oid.{is_relative, oid_octets}
use Rattle.asn1_rs.specs.Laws.Oid.{arcs_begin_by_test, begins_by_test}
use Rattle.asn1_rs.proofs.asn1_types.oid.Oid.starts_with.Goals as goal

pub returns-clause-octets : goal.returns-clause-octets
returns-clause-octets c = rw (c.starts_with.ensures.value, c.as_bytes.ensures, c.as_bytes-2.ensures)
    (begins_by_test (oid_octets c.args.self.now) (oid_octets c.args.needle.now))

pub returns-clause-arcs : goal.returns-clause-arcs
returns-clause-arcs c = λ h same complete.
    let x = c.args.self.now in
    let y = c.args.needle.now in
    subst (λ (r : Bool). (more : List ℕ) ×
    BeginsWith (arcs_of (is_relative x) (oid_octets x)) (arcs_of r (oid_octets y)) more) same
    (arcs_begin_by_test (is_relative x) (oid_octets x) (oid_octets y)
    (sym (rw (← c.as_bytes.ensures, ← c.as_bytes-2.ensures) c.starts_with.ensures.value) ∙ h) complete)
