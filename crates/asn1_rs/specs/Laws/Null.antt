-- Types with one value, which has no contents octets, are lawful leaves.
use Rattle.std.specs.Prelude.{ℕ, [], Ok}
use Rattle.std.proofs.Common.{refl, lit<}
use Rattle.x690.specs.Laws.Octets.{below_octets}
use Rattle.asn1_rs.specs.Checks.{CheckGives, IsCheck, ◌before◌, is_primitive, has_length}
use Rattle.asn1_rs.specs.Leaf.{IsLawfulLeaf, leaf_parts}
use Rattle.asn1_rs.specs.declared.asn1_types.null.Null.{Null}
use Rattle.asn1_rs.specs.Null.{one_value_leaf, null_leaf, unit_leaf}
use Rattle.asn1_rs.specs.Laws.Checks.{before_is, has_length_is, is_primitive_is, nothing_is}
use Rattle.x690.specs.Laws.Equality.{unit_set}

-- A type with one value is lawful where its checks are checks that this value meets.
one_value_lawful : (S : Type 0) (checks : CheckGives) → IsCheck checks →
    ((class : ℕ) → checks (leaf_parts (one_value_leaf S checks) class tt) (Ok tt)) →
    IsLawfulLeaf (one_value_leaf S checks)
one_value_lawful S checks are met = record {
  one_equality = unit_set;
  small = lit< tt;
  checks = are;
  constraints = nothing_is;
  one_value = λ c v w a b. refl;
  says_value = λ p v o m s. tt;
  der_value = λ v d. tt;
  der_octets = λ v d. below_octets [] tt;
  der_says = λ v d. refl;
  der_checks = λ k v d. met k;
  der_constraints = λ k v d. tt;
}

-- `Null` is lawful.
pub null_lawful : IsLawfulLeaf null_leaf
null_lawful = one_value_lawful Null (has_length 0) (has_length_is 0) (λ k. (refl, refl))

-- `()` is lawful.
pub unit_lawful : IsLawfulLeaf unit_leaf
unit_lawful = one_value_lawful (Unit {0}) (is_primitive before has_length 0)
    (before_is is_primitive (has_length 0) is_primitive_is (has_length_is 0)) (λ k. (refl, (refl, refl)))
