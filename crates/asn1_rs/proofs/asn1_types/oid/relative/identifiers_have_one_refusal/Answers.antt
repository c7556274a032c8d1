use Rattle.asn1_rs.specs.Laws.Checks.{has_number_is, one_refusal_of_checks}
use Rattle.asn1_rs.specs.Laws.Oid.{ber_relative_check_is, der_relative_check_is, lends_oid_one_refusal}
use Rattle.asn1_rs.specs.Laws.Oid.{oid_constraints_are}
use Rattle.asn1_rs.specs.Oid.{oid_constraints, relative_number}
use Rattle.asn1_rs.proofs.asn1_types.oid.relative.identifiers_have_one_refusal.Goals as goal

pub returns : goal.returns
returns c = record {
  constraints =
      one_refusal_of_checks oid_constraints oid_constraints_are oid_constraints (λ p x h. h) (λ p e h. h);
  relative = lends_oid_one_refusal _ _ (has_number_is relative_number);
  by_ber = lends_oid_one_refusal _ _ ber_relative_check_is;
  by_der = lends_oid_one_refusal _ _ der_relative_check_is;
}
