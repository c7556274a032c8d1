-- Attributes are lawful.
use Rattle.std.proofs.Common.{◌≡◌, ◌∙◌, ap, sym, subst, lit<, ℕ, List, [], ◌++◌}
use Rattle.std.specs.Prelude.{true}
use Rattle.std.proofs.lemmas.List.{append_cancel_left}
use Rattle.x690.specs.Collections.{AsWords}
use Rattle.x690.specs.Elements.{Parts}
use Rattle.x690.specs.Identifiers.{Identifier}
use Rattle.x690.specs.Joined.{IsPrefixFree}
use Rattle.x690.specs.Laws.Equality.{identifier_set, octets_set}
use Rattle.x690.specs.Laws.Octets.{octets_append}
use Rattle.x690.specs.Octets.{IsOctets}
use Rattle.asn1_rs.specs.Any.Value.{ElementValue, ElementValue-set, any_element}
use Rattle.asn1_rs.specs.Grammar.Form.{IsStrict}
use Rattle.asn1_rs.specs.Grammar.Item.{IsLawfulItem}
use Rattle.asn1_rs.specs.Kinds.{IsLawfulElement}
use Rattle.asn1_rs.specs.Laws.Any.Value.{element_lawful}
use Rattle.asn1_rs.specs.Laws.Forms.{universal_fits, universal_one, universal_value}
use Rattle.asn1_rs.specs.Laws.Kinds.{lawful_item}
use Rattle.asn1_rs.specs.Laws.Lists.{strict_word_octets, strict_word_one}
use Rattle.asn1_rs.specs.Laws.Oid.{oid_lawful, oid_value_set}
use Rattle.asn1_rs.specs.Laws.Words.{one_strict}
use Rattle.asn1_rs.specs.Oid.{OidValue, oid_element}
use Rattle.x509_name.specs.Attribute.{ArePairOfWords, AttributeBody, AttributeContent, AttributeValue}
use Rattle.x509_name.specs.Attribute.{AttributeValue-set}
use Rattle.x509_name.specs.Attribute.{any_item, attribute_element, attribute_item, oid_item}

-- The two parts are lawful.
pub oid_item_lawful : IsLawfulItem oid_item
oid_item_lawful = lawful_item oid_element oid_lawful

pub any_item_lawful : IsLawfulItem any_item
any_item_lawful = lawful_item any_element element_lawful

-- Two words, of each grammar one, have one value each.
pub two_one : {V W : Type 0} (F : List ℕ → V → Type 0) (G : List ℕ → W → Type 0) → IsPrefixFree F → IsPrefixFree G →
    (o : List ℕ) (v x : V) (w y : W) → ArePairOfWords F G o v w → ArePairOfWords F G o x y → (v ≡ x) × (w ≡ y)
two_one F G f g o v x w y a b =
    let e : a.front ++ a.behind ≡ b.front ++ b.behind = sym a.joined ∙ b.joined in
    let s = f.one a.front b.front a.behind b.behind v x a.first b.first e in
    let k : a.behind ≡ b.behind =
    append_cancel_left a.front a.behind b.behind (e ∙ ap (λ (z : List ℕ). z ++ b.behind) (sym s.0)) in
    (s.1, (g.one a.behind b.behind [] [] w y a.second b.second (ap (λ (z : List ℕ). z ++ []) k)).1)

-- Values that are the same in both parts are the same.
same_value : (v w : AttributeValue) → v.oid ≡ w.oid → v.value ≡ w.value → v ≡ w
same_value v w p q =
    ap (λ (o : OidValue). let a : AttributeValue = record { oid = o; value = v.value } in a) p
    ∙ ap (λ (e : ElementValue). let a : AttributeValue = record { oid = w.oid; value = e } in a) q

-- An element has one attribute.
body_one : (p : Parts) (v w : AttributeValue) → AttributeBody p v → AttributeBody p w → v ≡ w
body_one p v w a b =
    let s = two_one oid_item.Der any_item.Der oid_item_lawful.der_one any_item_lawful.der_one p.content v.oid w.oid
    v.value
    w.value a.parts b.parts in
    same_value v w s.0 s.1

-- Strict contents octets have one attribute.
content_one : (v w : AttributeValue) (c : List ℕ) → AttributeContent v c → AttributeContent w c → v ≡ w
content_one v w c a b =
    let s = two_one (AsWords (IsStrict oid_element.Form)) (AsWords (IsStrict any_element.Form))
    (strict_word_one oid_element.Form oid_lawful.one_value) (strict_word_one any_element.Form
    element_lawful.one_value) c
    v.oid w.oid v.value w.value a b in
    same_value v w s.0 s.1

-- An attribute has one strict content.
one_content : (v : AttributeValue) (c d : List ℕ) → AttributeContent v c → AttributeContent v d → c ≡ d
one_content v c d a b =
    let p = one_strict oid_element.Form oid_lawful.one_form v.oid a.front b.front a.first b.first in
    let q = one_strict any_element.Form element_lawful.one_form v.value a.behind b.behind a.second b.second in
    a.joined ∙ ap (λ (z : List ℕ). z ++ a.behind) p ∙ ap (λ (z : List ℕ). b.front ++ z) q ∙ sym b.joined

-- Strict contents octets are octets.
content_octets : (v : AttributeValue) (c : List ℕ) → AttributeContent v c → IsOctets c
content_octets v c a = subst IsOctets (sym a.joined)
    (octets_append a.front a.behind (strict_word_octets oid_element.Form a.front v.oid a.first)
    (strict_word_octets any_element.Form a.behind v.value a.second))

-- Strict contents octets hold the two parts by DER.
content_parts : (v : AttributeValue) (c : List ℕ) → AttributeContent v c →
    ArePairOfWords oid_item.Der any_item.Der c v.oid
    v.value
content_parts v c a = record {
  front = a.front;
  behind = a.behind;
  first = oid_item_lawful.strict_der v.oid a.front a.first;
  second = any_item_lawful.strict_der v.value a.behind a.second;
  joined = a.joined;
}

-- Attributes are lawful.
pub attribute_lawful : IsLawfulElement attribute_element
attribute_lawful = record {
  one_equality = AttributeValue-set oid_value_set (ElementValue-set identifier_set octets_set);
  body_values = λ p v o b. (
    oid_item_lawful.der_values b.parts.front v.oid b.parts.first,
    any_item_lawful.der_values b.parts.behind v.value b.parts.second,
  );
  form_values = λ v i c f. (
    oid_lawful.form_values v.oid f.1.first.id f.1.first.content f.1.first.form,
    element_lawful.form_values v.value f.1.second.id f.1.second.content f.1.second.form,
  );
  body_one = body_one;
  one_form = universal_one true 16 AttributeContent one_content;
  one_value = universal_value true 16 AttributeContent content_one;
  form_fits = universal_fits true 16 AttributeContent (lit< tt) content_octets;
  form_check = λ v i c f. tt;
  form_der = λ v i c f. (
    oid_lawful.form_der v.oid f.1.first.id f.1.first.content f.1.first.form,
    element_lawful.form_der v.value f.1.second.id f.1.second.content f.1.second.form,
  );
  form_body = λ v i c f. record {
    shape = (ap (λ (z : Identifier). z.number) f.0, ap (λ (z : Identifier). z.constructed) f.0);
    parts = content_parts v c f.1;
  };
}

-- So is the grammar of attributes.
pub attribute_item_lawful : IsLawfulItem attribute_item
attribute_item_lawful = lawful_item attribute_element attribute_lawful
