-- Enumerated values are lawful leaves.
use Rattle.std.specs.Prelude.{◌≡◌, length, ◌↔◌, IsTrue, nat_eq}
use Rattle.std.proofs.Common.{◌∙◌, sym, subst, refl, lit<, eqb-true, eq-eqb}
use Rattle.x690.specs.Integers.{unsigned_octets}
use Rattle.x690.specs.Laws.Integers.Unsigned.{unsigned_octets_content, unsigned_octets_value}
use Rattle.asn1_rs.specs.declared.asn1_types.enumerated.Enumerated.{Enumerated}
use Rattle.asn1_headers.specs.declared.error.Error.TheVariants.{IntegerTooLarge}
use Rattle.asn1_rs.specs.Checks.{is_primitive, content_check}
use Rattle.asn1_rs.specs.Leaf.{IsLawfulLeaf}
use Rattle.asn1_rs.specs.Enumerated.{enumerated_leaf, IsFourOctetWord, SaysWord}
use Rattle.asn1_rs.specs.Laws.Checks.{before_is, is_primitive_is, is_counted_is, content_check_is}
use native.Mathlib.Nat.{ℕ_set}

-- Enumerated values are lawful.
pub enumerated_lawful : IsLawfulLeaf enumerated_leaf
enumerated_lawful = record {
  one_equality = ℕ_set;
  small = lit< tt;
  checks = before_is is_primitive (content_check SaysWord IntegerTooLarge) is_primitive_is
      (content_check_is SaysWord IntegerTooLarge (λ e. cc));
  constraints = is_counted_is;
  one_value = λ c v w a b. a ∙ sym b;
  says_value = λ p v o m s. subst IsFourOctetWord (sym s) m.1;
  der_value = λ v d. d;
  der_octets = λ v d. (unsigned_octets_content v).octets;
  der_says = λ v d. sym (unsigned_octets_value v);
  der_checks = λ k v d. (refl, subst IsFourOctetWord (sym (unsigned_octets_value v)) d);
  der_constraints = λ k v d. (length (unsigned_octets v), refl);
}

-- enumerated values are equal where their numbers are the same
pub enumerated_equal : (x y : Enumerated) → IsTrue (nat_eq x.0 y.0) ↔ (x.0 ≡ y.0)
enumerated_equal x y = (λ h. eqb-true x.0 y.0 h, λ e. eq-eqb x.0 y.0 e)
