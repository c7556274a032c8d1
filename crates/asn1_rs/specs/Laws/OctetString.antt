-- Types whose value is their contents octets are lawful leaves.
use Rattle.std.specs.Prelude.{◌≡◌, ◌<◌, ℕ, List, ◌↔◌, IsTrue, nat_eq, bytes_eq, false, Ok}
use Rattle.std.specs.Borrow.{Bor}
use Rattle.std.specs.Cmp.{unsigned_Decides}
use Rattle.std.specs.Cmp.Lexicographic.{pointwise, pointwise_decides, bytes_decides}
use Rattle.std.proofs.Common.{◌∙◌, sym, subst, refl, lit<}
use Rattle.x690.specs.Octets.{IsOctets}
use Rattle.asn1_rs.specs.declared.asn1_types.octet_string.OctetString.{OctetString}
use Rattle.asn1_rs.specs.Leaf.{IsLawfulLeaf}
use Rattle.asn1_rs.specs.Checks.{CheckGives, IsCheck, nothing, is_primitive}
use Rattle.asn1_headers.specs.Tag.{is_container_number}
use Rattle.x690.specs.Elements.{Parts}
use Rattle.asn1_rs.specs.OctetString.{contents_leaf, octets_leaf, octet_string_number, octet_string_leaf, slice_leaf}
use Rattle.asn1_rs.specs.OctetString.{string_octets}
use Rattle.asn1_rs.specs.Laws.Checks.{nothing_is, is_primitive_is}
use Rattle.x690.specs.Laws.Equality.{octets_set}

-- The laws.

-- A leaf whose value is its contents octets is lawful, where strict parts meet its checks.
pub contents_lawful : {S : Type 0} (number : ℕ) (octets : S → List ℕ) (checks constraints : CheckGives) → number < 31 →
    IsCheck checks → IsCheck constraints →
    ((p : Parts) → p.id.constructed ≡ is_container_number number → checks p (Ok tt) × constraints p (Ok tt)) →
    IsLawfulLeaf (contents_leaf number octets checks constraints)
contents_lawful number octets checks constraints small checks_are constraints_are meets = record {
  one_equality = octets_set;
  small = small;
  checks = checks_are;
  constraints = constraints_are;
  one_value = λ c v w a b. sym a ∙ b;
  says_value = λ p v o m s. subst IsOctets s o.content;
  der_value = λ v d. d;
  der_octets = λ v d. d;
  der_says = λ v d. refl;
  der_checks = λ k v d. (meets _ refl).0;
  der_constraints = λ k v d. (meets _ refl).1;
}

-- So is one that is primitive, with no constraints.
pub octets_lawful : {S : Type 0} (number : ℕ) (octets : S → List ℕ) → number < 31 → is_container_number number ≡ false →
    IsLawfulLeaf (octets_leaf number octets)
octets_lawful number octets small none =
    contents_lawful number octets nothing is_primitive small nothing_is is_primitive_is (λ p h. (tt, h ∙ none))

-- Octet strings are lawful.
pub octet_string_lawful : IsLawfulLeaf octet_string_leaf
octet_string_lawful = octets_lawful octet_string_number string_octets (lit< tt) refl

-- Borrowed octets are lawful.
pub slice_lawful : IsLawfulLeaf slice_leaf
slice_lawful = octets_lawful octet_string_number (λ x. x.now) (lit< tt) refl

-- Equality.

-- octet strings are equal where their octets are
pub octet_string_equal : (x y : OctetString) →
    IsTrue (pointwise nat_eq (string_octets x) (string_octets y)) ↔ (string_octets x ≡ string_octets y)
octet_string_equal x y = pointwise_decides unsigned_Decides (string_octets x) (string_octets y)

-- Borrowed octets are equal exactly where they are the same.
pub slice_equal : (x y : Bor (List ℕ)) → IsTrue (bytes_eq x.now y.now) ↔ (x.now ≡ y.now)
slice_equal x y = bytes_decides x.now y.now
