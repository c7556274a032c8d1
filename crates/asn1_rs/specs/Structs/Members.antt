-- Fields and structs that may be members of a set, with that law in the record: equality is that of the values.
use Rattle.std.specs.Prelude.{◌≡◌, ◌↔◌, ◌&&◌, ◌∷◌, [], Bool, true, List, Option, IsTrue}
use Rattle.std.specs.Option.{option_map, option_eq}
use Rattle.std.proofs.Common.{refl}
use Rattle.x690.specs.Identifiers.{Identifier}
use Rattle.asn1_headers.specs.Header.{identifier_of, is_same_identifier}
use Rattle.asn1_headers.specs.declared.header.Header.{Header}
use Rattle.asn1_rs.specs.Laws.Structs.Members.{all_of, option_same, row_same}
use Rattle.asn1_rs.specs.Laws.Tagged.{same_beside_nothing}
use Rattle.asn1_rs.specs.Laws.Tagged.Headed.{headed_same}

-- The values of a type, and when two of its items are equal: exactly where their values are.
pub record MembersOf (S : Type 0) : Type 1 where
  pub Value : Type 0
  pub value : S → Value
  pub are_equal : S → S → Bool
  pub same : (x y : S) → IsTrue (are_equal x y) ↔ (value x ≡ value y)

-- The same of a row of fields: whether each field is equal, one by one.
pub record RowOfMembers (S : Type 0) : Type 1 where
  pub Value : Type 0
  pub value : S → Value
  pub are_equal : S → S → List Bool
  pub same : (x y : S) → IsTrue (all_of (are_equal x y)) ↔ (value x ≡ value y)

-- a type of which this is proved
abbrev pub members_of : {S V : Type 0} {value : S → V} {eq : S → S → Bool} →
    ((x y : S) → IsTrue (eq x y) ↔ (value x ≡ value y)) → MembersOf S
members_of {S} {V} {value} {eq} same = record {
  Value = V;
  value = value;
  are_equal = eq;
  same = same;
}

-- what holds an item of another type beside a mark, which holds nothing
abbrev pub marked_members : {S T : Type 0} → (S → T) → MembersOf T → MembersOf S
marked_members inner M = record {
  Value = M.Value;
  value = λ x. M.value (inner x);
  are_equal = λ x y. M.are_equal (inner x) (inner y) && true;
  same = λ x y. same_beside_nothing (M.are_equal (inner x) (inner y)) (M.same (inner x) (inner y));
}

-- values with the header of their tag, which are equal where what the identifier octets say is, and the values are
abbrev pub headed_members : {S T : Type 0} → (S → Header) → (S → T) → MembersOf T → MembersOf S
headed_members header inner M = record {
  Value = Identifier × M.Value;
  value = λ x. (identifier_of (header x), M.value (inner x));
  are_equal = λ x y. is_same_identifier (header x) (header y) && (M.are_equal (inner x) (inner y) && true);
  same = λ x y. headed_same (header x) (header y) (M.are_equal (inner x) (inner y)) (M.value (inner x))
      (M.value (inner y)) (M.same (inner x) (inner y));
}

-- what may be left out
abbrev pub optional_members : {S : Type 0} → MembersOf S → MembersOf (Option S)
optional_members M = record {
  Value = Option M.Value;
  value = option_map M.value;
  are_equal = option_eq M.are_equal;
  same = option_same M.value M.are_equal M.same;
}

-- no fields
abbrev pub no_members : RowOfMembers (Unit {0})
no_members = record {
  Value = Unit {0};
  value = λ x. x;
  are_equal = λ x y. [];
  same = λ x y. (λ h. refl, λ e. refl);
}

-- a field, and the others behind it
abbrev pub then_members : {S R : Type 0} → MembersOf S → RowOfMembers R → RowOfMembers (S × R)
then_members F R = record {
  Value = F.Value × R.Value;
  value = λ x. (F.value x.0, R.value x.1);
  are_equal = λ x y. F.are_equal x.0 y.0 ∷ R.are_equal x.1 y.1;
  same = row_same F.value F.are_equal F.same R.value R.are_equal R.same;
}

-- a struct of a row
abbrev pub struct_members : {T S : Type 0} → (T → S) → RowOfMembers S → MembersOf T
struct_members as_row R = record {
  Value = R.Value;
  value = λ x. R.value (as_row x);
  are_equal = λ x y. all_of (R.are_equal (as_row x) (as_row y));
  same = λ x y. R.same (as_row x) (as_row y);
}
