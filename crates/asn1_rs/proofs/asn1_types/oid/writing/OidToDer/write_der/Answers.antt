use Rattle.std.proofs.Common.{◌≡◌, false, ◌++◌, length, subst, ℕ, List, IfErr, arith}
use Rattle.asn1_headers.specs.Writer.{MayRefuse}
use Rattle.x690.specs.Strict.{header_octets}
use Rattle.asn1_rs.specs.declared.asn1_types.oid.Oid.{Oid}
use Rattle.asn1_rs.specs.Oid.{is_relative, oid_header, oid_octets, written_number}
use Rattle.asn1_rs.specs.ToDer.{Either}
use Rattle.asn1_rs.proofs.Writing.{only_may, few_octets, may_keep}
use Rattle.asn1_rs.proofs.asn1_types.oid.writing.OidToDer.write_der.Goals as goal

same_header : (x : Oid) (number : ℕ) (octets : List ℕ) → number ≡ written_number (is_relative x) →
    octets ≡ oid_octets x → header_octets 0 false number (length octets) ++ octets ≡ oid_header x ++ oid_octets x
same_header x number octets a b = cc

pub returns-clause-refused : goal.returns-clause-refused
returns-clause-refused g c = λ _. let x = c.args.self.now in
    only_may c.put_behind.result false (length (oid_header x ++ oid_octets x)) (Either (λ _. ⊥) (λ _. ⊥))
    (subst (λ (o : List ℕ). IfErr c.put_behind.result (MayRefuse false (length o)))
    (same_header x _ _ c.written_tag.ensures c.as_bytes-octets.ensures)
    (c.put_behind.ensures.failed _ _ c.put_header-header.ensures.wrote (c.put_header-header.ensures.failed _ _)))

pub returns-clause-kept : goal.returns-clause-kept
returns-clause-kept g c = λ t. may_keep _ _ _ _
    (c.put_behind.ensures.fits (few_octets _ 15 16 (omega arith) c.put_header-header.ensures.few)
    (c.put_header-header.ensures.failed false 0))
