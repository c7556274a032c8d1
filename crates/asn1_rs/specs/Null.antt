-- The null value (X.690 8.8).
use Rattle.std.specs.Prelude.{◌≡◌, ℕ, []}
use Rattle.asn1_rs.specs.declared.asn1_types.null.Null.{Null}
use Rattle.asn1_rs.specs.Checks.{CheckGives, ◌before◌, nothing, is_primitive, has_length}
use Rattle.asn1_rs.specs.Leaf.{Leaf}

-- the number of the tag of the null value
abbrev pub null_number : ℕ
null_number = 5

-- a type with one value, which has no contents octets
abbrev pub one_value_leaf : (S : Type 0) → CheckGives → Leaf S
one_value_leaf S checks = record {
  number = null_number;
  Value = Unit {0};
  value = λ x. tt;
  IsValue = λ v. Unit {0};
  IsDer = λ v. Unit {0};
  checks = checks;
  Says = λ content v. content ≡ [];
  constraints = nothing;
  octets = λ v. [];
}

-- `Null` is read from a constructed element too, and the unit value is not
abbrev pub null_leaf : Leaf Null
null_leaf = one_value_leaf Null (has_length 0)

-- `()` as the null value: an element of no contents octets.
abbrev pub unit_leaf : Leaf (Unit {0})
unit_leaf = one_value_leaf (Unit {0}) (is_primitive before has_length 0)
