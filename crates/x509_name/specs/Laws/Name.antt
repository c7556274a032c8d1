-- Names are lawful, and their reading is exact.
use Rattle.std.proofs.Common.{ap, sym, lit<, true, ℕ, List, map}
use Rattle.std.specs.Prelude.{Result, Ok, Err}
use Rattle.std.specs.declared.alloc.Global.{Global}
use Rattle.std.specs.declared.vec.Vec.{Vec}
use Rattle.x690.specs.Identifiers.{IsTruncatedIdentifier}
use Rattle.x690.specs.Laws.Equality.{list_set, multiset_set}
use Rattle.x690.specs.Elements.{IsDerElement}
use Rattle.x690.specs.Joined.{IsPrefixFree}
use Rattle.asn1_headers.specs.Answers.{Exactly}
use Rattle.asn1_headers.specs.declared.error.Err.{Err as Refusal}
use Rattle.asn1_headers.specs.declared.error.Error.{Error}
use Rattle.asn1_rs.specs.Grammar.{FormNumber, NoCheck}
use Rattle.asn1_rs.specs.Grammar.Item.{IsLawfulItem}
use Rattle.asn1_rs.specs.Kinds.{IsLawfulElement}
use Rattle.asn1_rs.specs.Laws.Kinds.{lawful_item}
use Rattle.asn1_rs.specs.Laws.Lists.{list_body_one, list_body_values, list_by_der_exact, list_fits, list_form_body}
use Rattle.asn1_rs.specs.Laws.Lists.{list_form_values, list_number, list_one_form, list_one_value, number_checks}
use Rattle.asn1_rs.specs.Laws.Readers.{der_elements}
use Rattle.asn1_rs.specs.Laws.Words.{word_one}
use Rattle.asn1_rs.specs.Lists.{HasNumber, ShapedList, has_items}
use Rattle.x509_name.specs.Attribute.{attribute_item}
use Rattle.x509_name.specs.Laws.Attribute.{attribute_item_lawful}
use Rattle.x509_name.specs.Laws.Reading.{itself}
use Rattle.x509_name.specs.Laws.RelativeName.{relative_name_item_lawful, relative_name_lawful}
use Rattle.x509_name.specs.Laws.RelativeNameReading.{Memory, in_word_order, relative_name_exact}
use Rattle.x509_name.specs.Name.{NameGives, NameInWordOrder, RowReads, name_element, name_item, name_value, rows_of}
use Rattle.x509_name.specs.RelativeName.{InWordOrder, IsSomeSet, RelativeNameGives, listed_values}
use Rattle.x509_name.specs.RelativeName.{relative_name_element, relative_name_item, relative_name_value}
use Rattle.x509_name.specs.declared.name.Name.{Name}
use Rattle.x509_name.specs.declared.relative_name.RelativeDistinguishedName.{RelativeDistinguishedName}

-- Names are lawful.
pub name_lawful : IsLawfulElement name_element
name_lawful = record {
  one_equality = list_set multiset_set;
  body_values = λ p vs o b. list_body_values (HasNumber 16) relative_name_item.Der relative_name_element.IsValue
      relative_name_item_lawful.der_values p vs b;
  form_values = list_form_values relative_name_element.Form 16 relative_name_element.IsValue
      relative_name_lawful.form_values;
  body_one = list_body_one relative_name_item.Der relative_name_item_lawful.der_one (HasNumber 16);
  one_form = list_one_form relative_name_element.Form 16 relative_name_lawful.one_form;
  one_value = list_one_value relative_name_element.Form 16 relative_name_lawful.one_value;
  form_fits = list_fits relative_name_element.Form 16 (lit< tt);
  form_check = λ vs i c f. tt;
  form_der = list_form_values relative_name_element.Form 16 relative_name_element.IsDer relative_name_lawful.form_der;
  form_body = list_form_body relative_name_element.Form 16 (HasNumber 16) (λ p is. is.0) relative_name_item.Der
      relative_name_item_lawful.strict_der;
}

-- So is their grammar.
pub name_item_lawful : IsLawfulItem name_item
name_item_lawful = lawful_item name_element name_lawful

-- Strict parts have the tag number of sequences.
pub name_number : FormNumber name_element.Form 16
name_number = list_number relative_name_element.Form 16

-- a vector of relative names that was read
abbrev Rows : Type 0
Rows = Result (List ℕ × Vec RelativeDistinguishedName Global) (Refusal Error)

-- Reading relative names into a vector is exact.
rows_exact : (input : List ℕ) (answer : Rows) → RowReads input answer →
    Exactly IsTruncatedIdentifier name_item.Der (λ v. map relative_name_value v.items) Memory input answer
rows_exact = list_by_der_exact (number_checks 16) has_items (λ v. map relative_name_value v.items) RelativeNameGives
    itself
    relative_name_item.Der relative_name_value true IsTruncatedIdentifier (λ items v h. ap (map relative_name_value) (sym h))
    relative_name_item_lawful.der_one (λ octets answer o g. relative_name_exact octets answer g)

-- One word in word order alone begins an input.
order_one : IsPrefixFree InWordOrder
order_one = word_one IsDerElement NoCheck (ShapedList IsSomeSet attribute_item.Der) der_elements.one
    (list_body_one attribute_item.Der attribute_item_lawful.der_one IsSomeSet)

-- The attributes of each stand in the order of their words.
rows_in_order : (input : List ℕ) (answer : Rows) → RowReads input answer →
    Exactly IsTruncatedIdentifier NameInWordOrder (λ v. map listed_values v.items) Memory input answer
rows_in_order = list_by_der_exact (number_checks 16) has_items (λ v. map listed_values v.items) RelativeNameGives itself
    InWordOrder listed_values true IsTruncatedIdentifier (λ items v h. ap (map listed_values) (sym h)) order_one
    (λ octets answer o g. in_word_order octets answer g)

-- Reading a name is exact.
pub name_exact : (input : List ℕ) (answer : Result (List ℕ × Name) (Refusal Error)) → NameGives input answer →
    Exactly IsTruncatedIdentifier name_item.Der name_value Memory input answer
name_exact input (Ok x) g = rows_exact input (Ok (x.0, x.1.rdn_sequence)) g
name_exact input (Err r) g = rows_exact input (Err r) g

-- In a name that was read the attributes of each relative name stand in the order of their words.
pub attributes_in_word_order : (input : List ℕ) (answer : Result (List ℕ × Name) (Refusal Error)) →
    NameGives input answer → Exactly IsTruncatedIdentifier NameInWordOrder rows_of Memory input answer
attributes_in_word_order input (Ok x) g = rows_in_order input (Ok (x.0, x.1.rdn_sequence)) g
attributes_in_word_order input (Err r) g = rows_in_order input (Err r) g
