-- Relative names are lawful.
use Rattle.std.proofs.Common.{◌≡◌, ◌≢◌, ◌∙◌, ap, sym, refl, subst, ℕ, List, [], ◌∷◌, ◌++◌, length}
use Rattle.std.proofs.lemmas.List.Sorted.{length_permutation}
use Rattle.std.specs.List.Sorted.{IsPermutation}
use Rattle.x690.specs.Collections.{multiset}
use Rattle.x690.specs.Identifiers.{Identifier}
use Rattle.x690.specs.Joined.{IsConcatenation, IsPrefixFree}
use Rattle.x690.specs.Laws.Collections.{joins_joined, permutation_from_multiset}
use Rattle.x690.specs.Laws.Equality.{multiset_set}
use Rattle.x690.specs.Laws.Joined.{joined_map, joined_values}
use Rattle.asn1_rs.specs.Grammar.{FormNumber, made}
use Rattle.asn1_rs.specs.Grammar.Form.{IsStrict}
use Rattle.asn1_rs.specs.Grammar.Item.{IsLawfulItem}
use Rattle.asn1_rs.specs.Kinds.{IsLawfulElement}
use Rattle.asn1_rs.specs.Laws.Kinds.{lawful_item}
use Rattle.asn1_rs.specs.Laws.Lists.{list_body_one, list_body_values}
use Rattle.asn1_rs.specs.Laws.Set.{body_seen, set_fits, set_form_values, set_one_form, set_one_value}
use Rattle.asn1_rs.specs.Lists.{StrictWord}
use Rattle.x509_name.specs.Attribute.{attribute_element, attribute_item}
use Rattle.x509_name.specs.Laws.Attribute.{attribute_item_lawful, attribute_lawful}
use Rattle.x509_name.specs.RelativeName.{IsNonEmpty, IsSomeSet, relative_name_element, relative_name_item}

-- Joined words of some values are some octets.
pub some_joined : {V : Type 0} (G : List ℕ → V → Type 0) → IsPrefixFree G → (octets : List ℕ) (vs : List V) →
    IsConcatenation G octets vs → IsNonEmpty vs → octets ≢ []
some_joined G one octets [] j some e = some refl
some_joined G one octets (v ∷ vs) j some e = one.some v (subst (λ (o : List ℕ). G o v) (nothing j.0 j.1 (sym j.3 ∙
    e)) j.2)
  where
    nothing : (a b : List ℕ) → a ++ b ≡ [] → a ≡ []
    nothing [] b e = refl
    nothing (x ∷ a) b e = cc

-- A permutation of some values are some values.
pub some_moved : {V : Type 0} (vs ws : List V) → IsPermutation vs ws → IsNonEmpty vs → IsNonEmpty ws
some_moved [] ws p some e = some refl
some_moved (v ∷ vs) ws p some e =
    let l : length ws ≡ length (v ∷ vs) = length_permutation (v ∷ vs) ws p in
    let m : length ws ≡ 0 = ap length e in
    cc

-- Strict parts of relative names have the multiset.
form_body : (m : relative_name_element.Value) (i : Identifier) (c : List ℕ) → relative_name_element.Form m i c →
    relative_name_element.Body (made i c) m
form_body m i c f =
    let items : IsConcatenation attribute_item.Der c f.1.items =
    joined_map (StrictWord attribute_element.Form) attribute_item.Der (λ o v s. attribute_item_lawful.strict_der v o
    s) c
    f.1.items (joins_joined multiset IsNonEmpty (IsStrict attribute_element.Form) m c f.1) in (
      f.1.items,
      f.1.are,
      record {
        shape = (
          ap (λ (z : Identifier). z.number) f.0,
          some_joined attribute_item.Der attribute_item_lawful.der_one c f.1.items items f.1.once,
        );
        items = items;
      },
    )

-- Relative names are lawful.
pub relative_name_lawful : IsLawfulElement relative_name_element
relative_name_lawful = record {
  one_equality = multiset_set;
  body_values = λ p m o b. (
    b.0,
    b.1,
    list_body_values IsSomeSet attribute_item.Der attribute_element.IsValue attribute_item_lawful.der_values p b.0 b.2,
  );
  form_values = set_form_values multiset IsNonEmpty attribute_element.Form attribute_element.IsValue
      attribute_lawful.form_values;
  body_one = body_seen multiset _ (list_body_one attribute_item.Der attribute_item_lawful.der_one IsSomeSet);
  one_form = set_one_form multiset IsNonEmpty attribute_element.Form (λ vs ws h k e. permutation_from_multiset vs ws e)
      attribute_lawful.one_form;
  one_value = set_one_value multiset IsNonEmpty attribute_element.Form attribute_lawful.one_value;
  form_fits = set_fits multiset IsNonEmpty attribute_element.Form;
  form_check = λ m i c f. tt;
  form_der = λ m i c f. (
    f.1.items,
    f.1.once,
    f.1.are,
    joined_values (StrictWord attribute_element.Form) attribute_element.IsDer
        (λ o v s. attribute_lawful.form_der v s.id s.content s.form) c f.1.items
        (joins_joined multiset IsNonEmpty (IsStrict attribute_element.Form) m c f.1),
  );
  form_body = form_body;
}

-- So is their grammar.
pub relative_name_item_lawful : IsLawfulItem relative_name_item
relative_name_item_lawful = lawful_item relative_name_element relative_name_lawful

-- Strict parts have the tag number of sets.
pub relative_name_number : FormNumber relative_name_element.Form 17
relative_name_number = λ m i c f. ap (λ (z : Identifier). z.number) f.0
