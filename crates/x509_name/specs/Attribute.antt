-- Attributes of names: an identifier and a value of any type, in a sequence.
use Rattle.std.specs.Prelude.{◌≡◌, ◌≢◌, ◌⊎◌, ℕ, true, false, List, [], ◌++◌, length, Result, Ok, Err}
use Rattle.x690.specs.Collections.{AsWords}
use Rattle.x690.specs.Elements.{Parts}
use Rattle.x690.specs.Strict.{header_octets}
use Rattle.asn1_headers.specs.declared.error.Err.{Err as Refusal}
use Rattle.asn1_headers.specs.declared.error.Err.TheVariants.{Error as refused}
use Rattle.asn1_headers.specs.declared.error.DerConstraint.TheVariants.{TrailingOctets}
use Rattle.asn1_headers.specs.declared.error.Error.{Error}
use Rattle.asn1_headers.specs.declared.error.Error.TheVariants.{DerConstraintFailed}
use Rattle.asn1_rs.specs.declared.asn1_types.any.Any.{Any}
use Rattle.asn1_rs.specs.declared.asn1_types.oid.Oid.{Oid}
use Rattle.asn1_rs.specs.Any.{IsDefiniteOr, IsTheElement, parts_of}
use Rattle.asn1_rs.specs.Any.Value.{ElementValue, any_element, element_of}
use Rattle.asn1_rs.specs.Any.Writing.{element_writing}
use Rattle.asn1_rs.specs.Grammar.{NoCheck}
use Rattle.asn1_rs.specs.Grammar.Form.{IsStrict, UniversalForm}
use Rattle.asn1_rs.specs.Grammar.Item.{ItemGrammar}
use Rattle.asn1_rs.specs.Kinds.{ElementGrammar, item_grammar}
use Rattle.asn1_rs.specs.Lists.{IsConstructed, IsListOr}
use Rattle.asn1_rs.specs.Oid.{OidGives, OidValue, oid_constraints, oid_element, oid_value, oid_writing}
use Rattle.asn1_rs.specs.ToDer.{Writing, plain_writing, whole_octets}
use Rattle.asn1_rs.specs.Traits.{DerGives}
use Rattle.x509_name.specs.declared.attribute.AttributeTypeAndValue.{AttributeTypeAndValue}

-- the value of an attribute is that of its two parts
pub record AttributeValue : Type 0 where
  pub oid : OidValue
  pub value : ElementValue
  deriving IsSet as AttributeValue-set

-- the value of an attribute in hand
abbrev pub attribute_value : AttributeTypeAndValue → AttributeValue
attribute_value a = record { oid = oid_value a.oid; value = element_of a.value }

-- the grammars of the two parts
abbrev pub oid_item : ItemGrammar Oid
oid_item = item_grammar oid_element

-- the grammar of elements of any type
abbrev pub any_item : ItemGrammar Any
any_item = item_grammar any_element

-- The octets are a word of the first grammar and then one of the second, and nothing else.
pub record ArePairOfWords {V W : Type 0} (First : List ℕ → V → Type 0) (Second : List ℕ → W → Type 0) (octets : List ℕ)
    (v : V) (w : W) : Type 0 where
  pub front : List ℕ
  pub behind : List ℕ
  pub first : First front v
  pub second : Second behind w
  pub joined : octets ≡ front ++ behind

-- The element is a constructed one with the tag number of sequences, which holds the two parts by DER.
pub record AttributeBody (p : Parts) (v : AttributeValue) : Type 0 where
  pub shape : IsConstructed 16 p
  pub parts : ArePairOfWords oid_item.Der any_item.Der p.content v.oid v.value

-- the strict contents octets are the strict encodings of the two parts
abbrev pub AttributeContent : AttributeValue → List ℕ → Type 0
AttributeContent v c =
    ArePairOfWords (AsWords (IsStrict oid_element.Form)) (AsWords (IsStrict any_element.Form)) c v.oid v.value

-- Attributes, as elements. They are in DER form where both parts are, so where the identifier is.
abbrev pub attribute_element : ElementGrammar AttributeTypeAndValue
attribute_element = record {
  Value = AttributeValue;
  value = attribute_value;
  IsValue = λ v. oid_element.IsValue v.oid × any_element.IsValue v.value;
  IsDer = λ v. oid_element.IsDer v.oid × any_element.IsDer v.value;
  Body = AttributeBody;
  Check = NoCheck;
  Form = UniversalForm true 16 AttributeContent;
  allocates = false;
}

-- the grammar of attributes
abbrev pub attribute_item : ItemGrammar AttributeTypeAndValue
attribute_item = item_grammar attribute_element

-- what the readers of the two parts may answer
abbrev pub OidReads : List ℕ → Result (List ℕ × Oid) (Refusal Error) → Type 0
OidReads = DerGives oid_constraints OidGives (λ x y. y ≡ x)

-- what the reader of elements of any type may answer
abbrev pub AnyReads : List ℕ → Result (List ℕ × Any) (Refusal Error) → Type 0
AnyReads = DerGives IsDefiniteOr IsTheElement (λ x y. y ≡ x)

-- octets behind both parts are refused
abbrev pub trailing : Refusal Error
trailing = refused (DerConstraintFailed TrailingOctets)

-- What reading the contents octets may answer. An Ok has both parts, and no octet is left behind them. A refusal is
-- that of the identifier, else that of the value, else that octets are left.
abbrev pub PartsGive : List ℕ → Result AttributeTypeAndValue (Refusal Error) → Type 0
PartsGive content (Ok a) =
    (behind : List ℕ) × OidReads content (Ok (behind, a.oid)) × AnyReads behind (Ok ([], a.value))
PartsGive content (Err r) = OidReads content (Err r) ⊎ ((behind : List ℕ) × (oid : Oid) ×
    OidReads content (Ok (behind, oid)) × (AnyReads behind (Err r) ⊎
    ((left : List ℕ) × (value : Any) × AnyReads behind (Ok (left, value)) × (left ≢ []) × (r ≡ trailing))))

-- What reading an attribute may answer. An Ok has the attribute of the element at the front. A refusal is that of the
-- element, else of its tag, else of its constructed bit, else of its contents octets.
abbrev pub AttributeGives : List ℕ → Result (List ℕ × AttributeTypeAndValue) (Refusal Error) → Type 0
AttributeGives input (Ok x) = (any : Any) × AnyReads input (Ok (x.0, any)) × IsListOr 16 (parts_of any) (Ok tt) ×
    PartsGive any.content.now (Ok x.1)
AttributeGives input (Err r) = AnyReads input (Err r) ⊎
    ((any : Any) × (rest : List ℕ) × AnyReads input (Ok (rest, any)) ×
    (((e : Error) × IsListOr 16 (parts_of any) (Err e) × (r ≡ refused e)) ⊎
    (IsListOr 16 (parts_of any) (Ok tt) × PartsGive any.content.now (Err r))))

-- what is written for an attribute: the encodings of its two parts, behind the header of a sequence
abbrev pub attribute_content : AttributeTypeAndValue → List ℕ
attribute_content a = whole_octets oid_writing a.oid ++ whole_octets element_writing a.value

-- nothing refuses an attribute for what it is
abbrev pub attribute_writing : Writing AttributeTypeAndValue
attribute_writing =
    plain_writing (λ a. header_octets 0 true 16 (length (attribute_content a))) attribute_content (λ _. true)

-- the encoding of an attribute
abbrev pub attribute_octets : AttributeTypeAndValue → List ℕ
attribute_octets = whole_octets attribute_writing
