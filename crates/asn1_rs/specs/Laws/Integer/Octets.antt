-- Integers of any size are lawful leaves.
use Rattle.std.specs.Prelude.{◌≡◌, length, nat_eq, IsTrue, ◌↔◌, Err}
use Rattle.std.specs.Cmp.Lexicographic.{pointwise, bytes_decides}
use Rattle.std.proofs.Common.{◌∙◌, sym, subst, refl, lit<}
use Rattle.x690.specs.Octets.{IsOctets}
use Rattle.asn1_rs.specs.Checks.{IsCheck}
use Rattle.asn1_rs.specs.declared.asn1_types.integer.octets.Integer.{Integer}
use Rattle.asn1_rs.specs.Integer.{IntegerCheckGives}
use Rattle.asn1_rs.specs.Integer.Octets.{integer_octets, any_integer_leaf}
use Rattle.asn1_rs.specs.Laws.Checks.{nothing_is}
use Rattle.asn1_rs.specs.Laws.Integer.{integer_checks, one_integer_check_refusal}
use Rattle.asn1_rs.specs.Leaf.{IsLawfulLeaf}
use Rattle.x690.specs.Laws.Equality.{octets_set}

-- what is asked of all integers is a check
integer_check_is : IsCheck IntegerCheckGives
integer_check_is = record {
  apart = λ p e m b. integer_checks.exact p (Err e) b m;
  one = one_integer_check_refusal;
  asks_no_memory = integer_checks.asks_no_memory;
}

-- Integers of any size are lawful.
pub any_integer_lawful : IsLawfulLeaf any_integer_leaf
any_integer_lawful = record {
  one_equality = octets_set;
  small = lit< tt;
  checks = nothing_is;
  constraints = integer_check_is;
  one_value = λ c v w a b. a ∙ sym b;
  says_value = λ p v o m s. subst IsOctets (sym s) o.content;
  der_value = λ v d. d.0;
  der_octets = λ v d. d.0;
  der_says = λ v d. refl;
  der_checks = λ k v d. tt;
  der_constraints = λ k v d. record { primitive = refl; counted = (length v, refl); shortest = d.1 };
}

-- integers are equal where their octets are the same
pub octets_equal : (x y : Integer) →
    IsTrue (pointwise nat_eq (integer_octets x) (integer_octets y)) ↔ (integer_octets x ≡ integer_octets y)
octets_equal x y = bytes_decides (integer_octets x) (integer_octets y)
