-- Strings whose contents octets are their text are lawful leaves.
use Rattle.std.specs.Prelude.{◌≡◌, ◌<◌, ℕ, List, ◌↔◌, IsTrue, IsUtf8, nat_eq, false}
use Rattle.std.specs.Cmp.{unsigned_Decides}
use Rattle.std.specs.Cmp.Lexicographic.{pointwise, pointwise_decides}
use Rattle.std.proofs.Common.{◌∙◌, sym, subst, refl}
use Rattle.x690.specs.Laws.Characters.{utf8_octets}
use Rattle.asn1_headers.specs.Tag.{is_container_number}
use Rattle.asn1_rs.specs.declared.asn1_types.strings.RestrictedString.{RestrictedString}
use Rattle.asn1_rs.specs.Kinds.{IsExactConversion}
use Rattle.asn1_rs.specs.Leaf.{IsLawfulLeaf, leaf_element}
use Rattle.asn1_rs.specs.Strings.{text_leaf, string_leaf, StringGives, string_reading, string_text}
use Rattle.asn1_rs.specs.Laws.Checks.{content_check_is, exact_check, is_primitive_is}
use Rattle.asn1_rs.specs.Laws.Leaf.{leaf_converts, leaf_lawful}
use Rattle.asn1_rs.specs.LeafReading.{IsExactReading}
use Rattle.asn1_rs.specs.Checks.{is_primitive}
use Rattle.x690.specs.Laws.Equality.{octets_set}

-- A leaf whose contents octets are a text in UTF-8 is lawful.
pub text_lawful : {S : Type 0} (number : ℕ) (IsText : List ℕ → Type 0) (text : S → List ℕ) → number < 31 →
    is_container_number number ≡ false →
    ((octets : List ℕ) → IsText octets → IsUtf8 octets) → IsLawfulLeaf (text_leaf number IsText text)
text_lawful number IsText text small primitive utf8 = record {
  one_equality = octets_set;
  small = small;
  checks = content_check_is IsText _ (λ e. cc);
  constraints = is_primitive_is;
  one_value = λ c v w a b. sym a ∙ b;
  says_value = λ p v o m s. utf8 v (subst IsText s m);
  der_value = utf8;
  der_octets = λ v d. utf8_octets v (utf8 v d);
  der_says = λ v d. refl;
  der_checks = λ k v d. d;
  der_constraints = λ k v d. primitive;
}

module _ {K : Type 0} (number : ℕ) (IsText : List ℕ → Type 0) (small : number < 31)
    (primitive : is_container_number number ≡ false) (utf8 : (octets : List ℕ) → IsText octets → IsUtf8 octets) where
  -- Strings whose contents octets are their text are lawful.
  pub string_lawful : IsLawfulLeaf (string_leaf {K = K} number IsText)
  string_lawful = text_lawful number IsText string_text small primitive utf8

  -- a text that is read is borrowed beside
  pub string_converts : IsExactConversion (StringGives number IsText) (leaf_element (string_leaf {K = K} number IsText))
  string_converts = record {
    exact = λ any answer o g. (leaf_converts (string_leaf number IsText) string_lawful).exact any answer o g.0;
    asks_no_memory = λ none any g. (leaf_converts (string_leaf number IsText) string_lawful).asks_no_memory none any
        g.0;
  }

  -- So reading such strings is exact.
  pub string_exact : IsExactReading (string_reading {K = K} number IsText)
  string_exact = record {
    lawful = leaf_lawful _ string_lawful;
    checked = exact_check is_primitive is_primitive_is;
    converts = string_converts;
  }

-- strings are equal where their texts are
pub string_equal : {K F : Type 0} (x y : RestrictedString K F) →
    IsTrue (pointwise nat_eq (string_text x) (string_text y)) ↔ (string_text x ≡ string_text y)
string_equal x y = pointwise_decides unsigned_Decides (string_text x) (string_text y)
