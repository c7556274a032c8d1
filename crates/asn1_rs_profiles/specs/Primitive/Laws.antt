-- Strings that are primitive are lawful leaves.
use Rattle.std.proofs.Common.{◌≡◌, ◌∙◌, sym, subst, refl, ℕ, ◌<◌, false, List, IsTrue, ◌↔◌}
use Rattle.std.specs.Prelude.{bytes_eq}
use Rattle.std.specs.Cmp.Lexicographic.{bytes_decides}
use Rattle.x690.specs.Octets.{IsOctets}
use Rattle.x690.specs.Laws.Equality.{octets_set}
use Rattle.asn1_headers.specs.Tag.{is_container_number}
use Rattle.asn1_headers.specs.declared.error.Error.TheVariants.{StringInvalidCharset}
use Rattle.asn1_rs.specs.Checks.{content_check, is_primitive}
use Rattle.asn1_rs.specs.Laws.Checks.{before_is, content_check_is, is_primitive_is}
use Rattle.asn1_rs.specs.Leaf.{IsLawfulLeaf}
use Rattle.asn1_rs.specs.Structs.Data.{LawfulTypeOf}
use Rattle.asn1_rs.specs.Structs.Types.{leaf_type}
use Rattle.asn1_rs_profiles.specs.Primitive.{octets_of_primitive, primitive_leaf}
use Rattle.asn1_rs_profiles.specs.declared.primitive.Primitive.{Primitive}

-- They are lawful.
pub primitive_lawful : {K : Type 0} (number : ℕ) (IsText : List ℕ → Type 0) → number < 31 →
    is_container_number number ≡ false → IsLawfulLeaf (primitive_leaf {K = K} number IsText)
primitive_lawful number IsText small primitive = record {
  one_equality = octets_set;
  small = small;
  checks = before_is is_primitive (content_check IsText StringInvalidCharset) is_primitive_is
      (content_check_is IsText _ (λ e. cc));
  constraints = is_primitive_is;
  one_value = λ c v w a b. sym a ∙ b;
  says_value = λ p v o m s. subst IsOctets s o.content;
  der_value = λ v d. d.0;
  der_octets = λ v d. d.0;
  der_says = λ v d. refl;
  der_checks = λ k v d. (primitive, d.1);
  der_constraints = λ k v d. primitive;
}

-- They are fields of structs.
abbrev pub primitive_type : {K : Type 0} (number : ℕ) (IsText : List ℕ → Type 0) → number < 31 →
    is_container_number number ≡ false → LawfulTypeOf (Primitive K)
primitive_type number IsText small primitive =
    leaf_type (primitive_leaf number IsText) (primitive_lawful number IsText small primitive)

-- two are equal where their octets are
pub primitive_equal : {K : Type 0} (x y : Primitive K) →
    IsTrue (bytes_eq (octets_of_primitive x) (octets_of_primitive y)) ↔ (octets_of_primitive x ≡ octets_of_primitive y)
primitive_equal x y = bytes_decides (octets_of_primitive x) (octets_of_primitive y)
