-- Strings whose text is decoded from their contents octets are lawful leaves.
use Rattle.std.specs.Prelude.{◌≡◌, ◌<◌, ℕ, List, false, chars, encode_utf8_all}
use Rattle.std.proofs.Common.{◌∙◌, ap, sym, refl}
use Rattle.std.proofs.lemmas.Str.{scalars-chars, encodes-chars}
use Rattle.x690.specs.Characters.{IsCode, IsCharacterCode, code_of}
use Rattle.x690.specs.Laws.Characters.{text_code}
use Rattle.asn1_headers.specs.Tag.{is_container_number}
use Rattle.asn1_rs.specs.CodedStrings.{IsCoded, coded_leaf, coded_string_leaf}
use Rattle.asn1_rs.specs.Laws.Checks.{content_check_is, is_primitive_is}
use Rattle.asn1_rs.specs.Leaf.{IsLawfulLeaf}
use Rattle.x690.specs.Laws.Equality.{octets_set}
use Rattle.asn1_rs.specs.Strings.{string_text}

-- A leaf whose text stands in a code is lawful.
pub coded_lawful : {S : Type 0} (number : ℕ) (code : List ℕ → List ℕ) (text : S → List ℕ) → number < 31 →
    is_container_number number ≡ false → IsCode code → IsLawfulLeaf (coded_leaf number code text)
coded_lawful number code text small primitive is = record {
  one_equality = octets_set;
  small = small;
  checks = content_check_is (IsCoded code) _ (λ e. cc);
  constraints = is_primitive_is;
  one_value = λ c v w a b. a.2 ∙ ap encode_utf8_all (is.one a.0 b.0 a.1.0 b.1.0 (sym a.1.1 ∙ b.1.1)) ∙ sym b.2;
  says_value = λ p v o m s. (s.0, (s.1.0, sym s.2));
  der_value = λ v d. d;
  der_octets = λ v d. is.octets (chars v) (scalars-chars v d);
  der_says = λ v d. (chars v, (scalars-chars v d, refl), sym (encodes-chars v d));
  der_checks = λ k v d. (chars v, (scalars-chars v d, refl));
  der_constraints = λ k v d. primitive;
}

-- Strings whose characters stand in a code are lawful.
pub coded_string_lawful : {K : Type 0} (number : ℕ) (octets_of : ℕ → List ℕ) → number < 31 →
    is_container_number number ≡ false → IsCharacterCode octets_of →
    IsLawfulLeaf (coded_string_leaf {K = K} number octets_of)
coded_string_lawful number octets_of small primitive is =
    coded_lawful number (code_of octets_of) string_text small primitive (text_code octets_of is)
