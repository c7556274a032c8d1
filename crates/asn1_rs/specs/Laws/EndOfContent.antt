-- The end of contents is lawful, as far as it is read.
use Rattle.std.proofs.Common.{refl, lit<}
use Rattle.asn1_rs.specs.EndOfContent.{end_leaf, by_ber_alone}
use Rattle.asn1_rs.specs.Grammar.Item.{IsLawfulItem}
use Rattle.asn1_rs.specs.Leaf.{Leaf, IsLawfulLeaf}
use Rattle.asn1_rs.specs.Laws.Checks.{has_length_is, nothing_is}
use Rattle.x690.specs.Laws.Equality.{unit_set}

-- The end of contents is lawful.
pub end_lawful : IsLawfulLeaf end_leaf
end_lawful = record {
  one_equality = unit_set;
  small = lit< tt;
  checks = has_length_is 0;
  constraints = nothing_is;
  one_value = λ c v w a b. refl;
  says_value = λ p v o m s. tt;
  der_value = λ v d. tt;
  der_octets = λ v d. absurd d;
  der_says = λ v d. absurd d;
  der_checks = λ k v d. absurd d;
  der_constraints = λ k v d. absurd d;
}

-- A lawful leaf stays lawful where it is read by BER alone.
pub lawful_by_ber_alone : {S : Type 0} (L : Leaf S) → IsLawfulLeaf L → IsLawfulItem (by_ber_alone L)
lawful_by_ber_alone L l = record {
  one_equality = l.one_equality;
  der_element = λ o v w. absurd w;
  der_values = λ o v w. absurd w;
  body_values = λ p v o b. l.says_value p v o b.0.1 b.1;
  form_values = λ v i c f. absurd f;
  der_one = record { one = λ x y r s v w a b e. absurd a; some = λ v a. a };
  body_one = λ p v w a b. l.one_value p.content v w a.1 b.1;
  one_form = λ v i j c d f g. absurd f;
  one_value = λ v w i c f g. absurd f;
  form_fits = λ v i c f. absurd f;
  form_check = λ v i c f. f;
  form_der = λ v i c f. f;
  form_body = λ v i c f. absurd f;
  strict_der = λ v o s. s.form;
}
