-- Names: relative names in a sequence.
use Rattle.std.specs.Prelude.{◌≡◌, ℕ, true, List, [], map, Result}
use Rattle.std.specs.List.{All, Any as HasSome}
use Rattle.x690.specs.Collections.{Multiset}
use Rattle.asn1_headers.specs.declared.error.Err.{Err as Refusal}
use Rattle.asn1_headers.specs.declared.error.Error.{Error}
use Rattle.std.specs.declared.alloc.Global.{Global}
use Rattle.std.specs.declared.vec.Vec.{Vec}
use Rattle.asn1_rs.specs.Checks.{has_number}
use Rattle.asn1_rs.specs.Grammar.{DerWord, NoCheck}
use Rattle.asn1_rs.specs.Grammar.Form.{IsStrict}
use Rattle.asn1_rs.specs.Grammar.Item.{ItemGrammar}
use Rattle.asn1_rs.specs.Kinds.{ElementGrammar, InnerReads, item_grammar}
use Rattle.asn1_rs.specs.Kinds.Writing.{list_writing}
use Rattle.asn1_rs.specs.Lists.{ListForm, ListOf, ListConverts, has_items}
use Rattle.asn1_rs.specs.ToDer.{Writing, whole_octets}
use Rattle.asn1_rs.specs.Traits.{DerGives, OfParts, PassesAll}
use Rattle.x509_name.specs.Attribute.{AttributeValue}
use Rattle.x509_name.specs.RelativeName.{InWordOrder, RelativeNameGives, attributes, listed_values}
use Rattle.x509_name.specs.RelativeName.{relative_name_element}
use Rattle.x509_name.specs.RelativeName.{relative_name_item, relative_name_value, relative_name_writing}
use Rattle.x509_name.specs.declared.name.Name.{Name}
use Rattle.x509_name.specs.declared.relative_name.RelativeDistinguishedName.{RelativeDistinguishedName}

-- the relative names of a name, in their order
abbrev pub relative_names : Name → List RelativeDistinguishedName
relative_names n = n.rdn_sequence.items

-- the value of a name is the list of the values of its relative names
abbrev pub name_value : Name → List (Multiset AttributeValue)
name_value n = map relative_name_value (relative_names n)

-- Names, as elements: in DER form where each relative name is.
abbrev pub name_element : ElementGrammar Name
name_element = record {
  Value = List (Multiset AttributeValue);
  value = name_value;
  IsValue = All relative_name_element.IsValue;
  IsDer = All relative_name_element.IsDer;
  Body = ListOf 16 relative_name_item.Der;
  Check = NoCheck;
  Form = ListForm 16 relative_name_element.Form;
  allocates = true;
}

-- the grammar of names
abbrev pub name_item : ItemGrammar Name
name_item = item_grammar name_element

-- words of names, with the values of the attributes in the order of the words of these, in each relative name
abbrev pub NameInWordOrder : List ℕ → List (List AttributeValue) → Type 0
NameInWordOrder = DerWord NoCheck (ListOf 16 InWordOrder)

-- the values of the attributes of a name in hand, in their order
abbrev pub rows_of : Name → List (List AttributeValue)
rows_of n = map listed_values (relative_names n)

-- what the reader of vectors of relative names may answer
abbrev pub RowReads : List ℕ → Result (List ℕ × Vec RelativeDistinguishedName Global) (Refusal Error) → Type 0
RowReads = DerGives PassesAll (OfParts (ListConverts (has_number 16) has_items RelativeNameGives (λ x y. y ≡ x)))
    (λ x y. y ≡ x)

-- a name is read as a vector of relative names is
abbrev pub NameGives : List ℕ → Result (List ℕ × Name) (Refusal Error) → Type 0
NameGives = InnerReads (λ n. n.rdn_sequence) RowReads

-- Names are written as lists of relative names. One that holds a relative name without attributes is refused.
abbrev pub name_writing : Writing Name
name_writing = list_writing 16 relative_names relative_name_writing

-- some relative name of it has no attribute
abbrev pub HoldsEmpty : Name → Type 0
HoldsEmpty n = HasSome (λ r. attributes r ≡ []) (relative_names n)

-- the encoding of a name
abbrev pub name_octets : Name → List ℕ
name_octets = whole_octets name_writing

-- the octets are the strict encoding of the value of a name
abbrev pub StrictName : List (Multiset AttributeValue) → List ℕ → Type 0
StrictName = IsStrict name_element.Form
