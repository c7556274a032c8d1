-- Relative names: attributes in a set, at least one.
use Rattle.std.specs.Prelude.{◌≡◌, ◌≢◌, ◌⊎◌, ℕ, true, false, List, [], map, length, codes, Result, Ok, Err}
use Rattle.x690.specs.Collections.{Multiset, multiset}
use Rattle.x690.specs.Elements.{Parts}
use Rattle.x690.specs.Strict.{header_octets}
use Rattle.asn1_headers.specs.Error.{IsInvalidValue, written_refusal}
use Rattle.asn1_headers.specs.Writer.{WriterState}
use Rattle.asn1_headers.specs.declared.error.Err.{Err as Refusal}
use Rattle.asn1_headers.specs.declared.error.Err.TheVariants.{Error as refused}
use Rattle.asn1_headers.specs.declared.error.Error.{Error}
use Rattle.asn1_headers.specs.declared.error.Error.TheVariants.{InvalidLength}
use Rattle.asn1_headers.specs.declared.error.SerializeError.{SerializeError}
use Rattle.asn1_rs.specs.declared.asn1_types.set.set_of.SetOf.{SetOf}
use Rattle.asn1_rs.specs.Checks.{has_number}
use Rattle.asn1_rs.specs.Grammar.{DerWord, NoCheck}
use Rattle.asn1_rs.specs.Grammar.Item.{ItemGrammar}
use Rattle.asn1_rs.specs.Kinds.{ElementGrammar, item_grammar}
use Rattle.asn1_rs.specs.Lists.{HasNumber, ListConverts, ShapedList}
use Rattle.asn1_rs.specs.Set.{HasItems, Seen, SetForm, SetInDer, SetValues, items_of, set_content}
use Rattle.asn1_rs.specs.ToDer.{RefusedAtOnce, Writing, WrittenRefusal}
use Rattle.asn1_rs.specs.Traits.{DerGives, OfParts, PassesAll}
use Rattle.x509_name.specs.Attribute.{AttributeGives, AttributeValue, attribute_element, attribute_item}
use Rattle.x509_name.specs.Attribute.{attribute_octets, attribute_value}
use Rattle.x509_name.specs.declared.attribute.AttributeTypeAndValue.{AttributeTypeAndValue}
use Rattle.x509_name.specs.declared.relative_name.RelativeDistinguishedName.{RelativeDistinguishedName}

-- the attributes of a relative name, in the order in hand
abbrev pub attributes : RelativeDistinguishedName → List AttributeTypeAndValue
attributes r = r.v.items

-- the values of its attributes, in that order
abbrev pub listed_values : RelativeDistinguishedName → List AttributeValue
listed_values r = map attribute_value (attributes r)

-- some value stands in the list
abbrev pub IsNonEmpty : {V : Type 0} → List V → Type 0
IsNonEmpty vs = vs ≢ []

-- the value of a relative name is the multiset of the values of its attributes
abbrev pub relative_name_value : RelativeDistinguishedName → Multiset AttributeValue
relative_name_value r = multiset (listed_values r)

-- the element has the tag number of sets, and some contents octets
abbrev pub IsSomeSet : Parts → Type 0
IsSomeSet p = HasNumber 17 p × (p.content ≢ [])

-- words of relative names, with the values of their attributes in the order of the attributes' words
abbrev pub InWordOrder : List ℕ → List AttributeValue → Type 0
InWordOrder = DerWord NoCheck (ShapedList IsSomeSet attribute_item.Der)

-- Relative names, as elements. They are in DER form where each attribute is, and where there is one attribute at least.
abbrev pub relative_name_element : ElementGrammar RelativeDistinguishedName
relative_name_element = record {
  Value = Multiset AttributeValue;
  value = relative_name_value;
  IsValue = SetValues multiset attribute_element.IsValue;
  IsDer = SetInDer multiset IsNonEmpty attribute_element.IsDer;
  Body = Seen multiset (ShapedList IsSomeSet attribute_item.Der);
  Check = NoCheck;
  Form = SetForm multiset IsNonEmpty attribute_element.Form;
  allocates = true;
}

-- the grammar of relative names
abbrev pub relative_name_item : ItemGrammar RelativeDistinguishedName
relative_name_item = item_grammar relative_name_element

-- what the reader of sets of attributes may answer
abbrev pub SetReads : List ℕ → Result (List ℕ × SetOf AttributeTypeAndValue) (Refusal Error) → Type 0
SetReads = DerGives PassesAll (OfParts (ListConverts (has_number 17) HasItems AttributeGives (λ x y. y ≡ x)))
    (λ x y. y ≡ x)

-- What reading a relative name may answer. An Ok has the attributes of a set, of which there is one at least. A refusal
-- is that of the set, else that the set is empty.
abbrev pub RelativeNameGives : List ℕ → Result (List ℕ × RelativeDistinguishedName) (Refusal Error) → Type 0
RelativeNameGives input (Ok x) = (s : SetOf AttributeTypeAndValue) × SetReads input (Ok (x.0, s)) ×
    (items_of s ≡ attributes x.1) × IsNonEmpty (attributes x.1)
RelativeNameGives input (Err r) = SetReads input (Err r) ⊎ ((rest : List ℕ) × (s : SetOf AttributeTypeAndValue) ×
    SetReads input (Ok (rest, s)) × (items_of s ≡ []) × (r ≡ refused InvalidLength))

-- the refusal of a relative name without attributes
abbrev pub TellsOfNoAttribute : Error → Type 0
TellsOfNoAttribute = IsInvalidValue (record { 0 = 17 }) (codes "no attribute")

-- a relative name has no attribute, and the refusal tells of that
abbrev pub HasNoAttribute : RelativeDistinguishedName → Error → Type 0
HasNoAttribute r e = (attributes r ≡ []) × TellsOfNoAttribute e

-- what is written for a relative name: the encodings of its attributes in ascending order
abbrev pub relative_name_content : RelativeDistinguishedName → List ℕ
relative_name_content r = set_content attribute_octets (attributes r)

-- One without attributes is refused. A count takes no memory.
abbrev pub relative_name_writing : Writing RelativeDistinguishedName
relative_name_writing = record {
  tells = λ _. Unit {0};
  header = λ r. header_octets 0 true 17 (length (relative_name_content r));
  content = relative_name_content;
  constructed = λ _. true;
  count_refuses = HasNoAttribute;
  header_refuses = λ r. WrittenRefusal (HasNoAttribute r);
  content_refuses = λ r. WrittenRefusal (HasNoAttribute r);
  refuses_first = λ _ _. ⊥;
  count_allocates = false;
  content_allocates = true;
  write_allocates = true;
}

-- refused for want of attributes, with the writer as it was
abbrev pub RefusedForNone : WriterState → WriterState → Result ℕ SerializeError → Type 0
RefusedForNone old new answer =
    (e : Error) × TellsOfNoAttribute e × RefusedAtOnce (written_refusal e) old new answer
