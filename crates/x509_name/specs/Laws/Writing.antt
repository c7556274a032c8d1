-- What is written for attributes is lawful.
use Rattle.std.proofs.Common.{arith, ◌≡◌, ◌∙◌, ap, sym, refl, true, ℕ, ◌<◌, ◌^◌, List, length, length-append}
use mathlib.Core.Logic.{∥∥₁_elim, ∥∥₁_map, ∥∥₁_prop}
use Rattle.x690.specs.Identifiers.{Identifier}
use Rattle.x690.specs.Strict.{header_octets}
use Rattle.asn1_rs.specs.Any.Value.{any_element, element_of}
use Rattle.asn1_rs.specs.Any.Writing.{element_writing}
use Rattle.asn1_rs.specs.Grammar.{FormNumber}
use Rattle.asn1_rs.specs.Grammar.Form.{header_of, of_universal_class}
use Rattle.asn1_rs.specs.Grammar.Item.{IsLawfulWriting}
use Rattle.asn1_rs.specs.Laws.Any.Writing.{element_lawful_writing}
use Rattle.asn1_rs.specs.Laws.Forms.{both_by_value, nothing_refused, strict_written}
use Rattle.asn1_rs.specs.Laws.Oid.{oid_lawful_writing}
use Rattle.asn1_rs.specs.Laws.Writing.{der_written}
use Rattle.asn1_rs.specs.Oid.{oid_element, oid_value, oid_writing}
use Rattle.asn1_rs.specs.ToDer.{IsWritable, whole_octets}
use Rattle.x509_name.specs.Attribute.{AttributeContent, AttributeValue, any_item, attribute_content, attribute_element}
use Rattle.x509_name.specs.Attribute.{attribute_item, attribute_value, attribute_writing, oid_item}
use Rattle.x509_name.specs.Laws.Attribute.{any_item_lawful, oid_item_lawful}
use Rattle.x509_name.specs.declared.attribute.AttributeTypeAndValue.{AttributeTypeAndValue}

-- What is written for an attribute follows from its value.
by_value : (x y : AttributeTypeAndValue) → attribute_value x ≡ attribute_value y →
    attribute_content x ≡ attribute_content y
by_value x y e =
    let o = oid_lawful_writing.by_value x.oid y.oid (ap (λ (v : AttributeValue). v.oid) e) in
    let a = element_lawful_writing.by_value x.value y.value (ap (λ (v : AttributeValue). v.value) e) in
    both_by_value (both_by_value o.1 o.2) (both_by_value a.1 a.2)

-- Strict contents octets of an attribute are those that are written.
written : (x : AttributeTypeAndValue) (c : List ℕ) → AttributeContent (attribute_value x) c → attribute_content x ≡ c
written x c f =
    let o = strict_written oid_value oid_element.Form oid_writing oid_lawful_writing.form x.oid f.front f.first in
    let a = strict_written element_of any_element.Form element_writing element_lawful_writing.form x.value f.behind
    f.second in
    both_by_value o.1 a.1 ∙ sym f.joined

-- Nothing of an attribute's own refuses it.
pub attribute_writable : (x : AttributeTypeAndValue) → IsWritable attribute_writing x
attribute_writable = nothing_refused (λ a. header_octets 0 true 16 (length (attribute_content a))) attribute_content
    (λ _. true)

-- What is written for attributes is lawful.
pub attribute_lawful_writing : IsLawfulWriting attribute_item attribute_writing
attribute_lawful_writing = record {
  tells_all = λ x. tt;
  by_value = λ x y e. let c = by_value x y e in (refl, ap (λ (z : List ℕ). header_octets 0 true 16 (length z)) c, c);
  form = λ x i c f. (
    attribute_writable x,
    sym (ap (λ (z : Identifier). z.constructed) f.0),
    written x c f.1,
    ap (λ (z : List ℕ). header_octets 0 true 16 (length z)) (written x c f.1)
        ∙ ap (λ (z : Identifier). header_of z c) (sym f.0),
  );
  der_form = has_form;
  der_writable = λ x d. attribute_writable x;
}
  where
    has_form : (x : AttributeTypeAndValue) → attribute_element.IsDer (attribute_value x) →
        length (attribute_content x) < 2 ^ 64 →
        ∥ ((i : Identifier) × attribute_element.Form (attribute_value x) i (attribute_content x)) ∥₁
    has_form x d l =
        let o = whole_octets oid_writing x.oid in
        let a = whole_octets element_writing x.value in
        let both = length-append o a in
        ∥∥₁_elim (der_written oid_item oid_writing oid_item_lawful oid_lawful_writing x.oid d.0 (omega (
          arith,
          both,
          l,
        )))
        ∥∥₁_prop (λ s. ∥∥₁_map (der_written any_item element_writing any_item_lawful element_lawful_writing x.value d.1
        (omega (arith, both, l))) (λ t. (
          of_universal_class true 16,
          (refl, record { front = o; behind = a; first = s; second = t; joined = refl }),
        )))

-- Strict parts have the tag number of sequences.
pub attribute_number : FormNumber attribute_element.Form 16
attribute_number = λ v i c f. ap (λ (z : Identifier). z.number) f.0
