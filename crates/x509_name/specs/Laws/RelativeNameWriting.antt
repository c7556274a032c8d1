-- What is written for relative names and for names is lawful.
use Rattle.std.proofs.Common.{◌≡◌, ap, List, map}
use mathlib.Core.HLevel.{⊥_prop}
use mathlib.Core.Logic.{∥∥₁_elim}
use Rattle.x690.specs.Collections.{multiset}
use Rattle.x690.specs.Laws.Collections.{permutation_from_multiset, same_multiset}
use Rattle.asn1_rs.specs.Grammar.Item.{IsLawfulWriting}
use Rattle.asn1_rs.specs.Laws.Set.{set_by_value, set_has_form, set_writes_form}
use Rattle.asn1_rs.specs.Laws.Writing.{der_written, list_lawful_writing}
use Rattle.asn1_rs.specs.ToDer.{IsWritable}
use Rattle.x509_name.specs.Attribute.{AttributeValue, attribute_element, attribute_item, attribute_octets}
use Rattle.x509_name.specs.Attribute.{attribute_value, attribute_writing}
use Rattle.x509_name.specs.Laws.Attribute.{attribute_item_lawful}
use Rattle.x509_name.specs.Laws.RelativeName.{relative_name_item_lawful, some_moved}
use Rattle.x509_name.specs.Laws.Writing.{attribute_lawful_writing}
use Rattle.x509_name.specs.Name.{name_item, name_writing, relative_names}
use Rattle.x509_name.specs.RelativeName.{IsNonEmpty, attributes, listed_values, relative_name_item, relative_name_value}
use Rattle.x509_name.specs.RelativeName.{relative_name_writing}
use Rattle.x509_name.specs.declared.relative_name.RelativeDistinguishedName.{RelativeDistinguishedName}

-- A relative name with the multiset of some values has some attributes.
some_attributes : (x : RelativeDistinguishedName) (vs : List AttributeValue) → multiset vs ≡ relative_name_value x →
    IsNonEmpty vs → IsNonEmpty (attributes x)
some_attributes x vs e h none = ∥∥₁_elim (permutation_from_multiset vs (listed_values x) e) ⊥_prop
    (λ p. some_moved vs (listed_values x) p h (ap (map attribute_value) none))

-- One with some attributes has no refusal of its own.
some_writable : (x : RelativeDistinguishedName) → IsNonEmpty (attributes x) → IsWritable relative_name_writing x
some_writable x h = (λ e o. h o.0, λ e r. h r.1.0, λ e r. h r.1.0)

-- What is written for relative names is lawful.
pub relative_name_lawful_writing : IsLawfulWriting relative_name_item relative_name_writing
relative_name_lawful_writing = record {
  tells_all = λ x. tt;
  by_value = λ x y e. set_by_value attributes attribute_value attribute_writing attribute_lawful_writing.by_value x y
      (permutation_from_multiset (listed_values x) (listed_values y) e);
  form = λ x i c f.
      let h = set_writes_form attribute_value attribute_element.Form attribute_writing attribute_lawful_writing.form
      multiset IsNonEmpty (attributes x) c (relative_name_value x) f.1
      (permutation_from_multiset f.1.items (listed_values x) f.1.are) i f.0 in
      (some_writable x (some_attributes x f.1.items f.1.are f.1.once), h.1, h.2, h.3);
  der_form = λ x d l. set_has_form multiset IsNonEmpty some_moved same_multiset attribute_value attribute_element.IsDer
      attribute_element.Form attribute_octets
      (der_written attribute_item attribute_writing attribute_item_lawful attribute_lawful_writing) (attributes x)
      (relative_name_value x) d (permutation_from_multiset d.0 (listed_values x) d.2) l;
  der_writable = λ x d. some_writable x (some_attributes x d.0 d.2 d.1);
}

-- So is what is written for names.
pub name_lawful_writing : IsLawfulWriting name_item name_writing
name_lawful_writing =
    let l = list_lawful_writing 16 relative_names relative_name_item relative_name_writing relative_name_item_lawful
    relative_name_lawful_writing in
    record {
      tells_all = l.tells_all;
      by_value = l.by_value;
      form = l.form;
      der_form = l.der_form;
      der_writable = l.der_writable;
    }
