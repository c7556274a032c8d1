-- Elements of any type, as values.
use Rattle.std.specs.Prelude.{◌≡◌, ℕ, ◌<◌, ◌^◌, false, List}
use Rattle.x690.specs.Octets.{IsOctets}
use Rattle.x690.specs.Identifiers.{Identifier}
use Rattle.x690.specs.Lengths.{definite}
use Rattle.x690.specs.Elements.{Parts}
use Rattle.asn1_rs.specs.declared.asn1_types.any.Any.{Any}
use Rattle.asn1_headers.specs.Header.{identifier_of}
use Rattle.asn1_rs.specs.Kinds.{ElementGrammar}

-- what an element says, however its length was written
pub record ElementValue : Type 0 where
  pub id : Identifier
  pub content : List ℕ
  deriving IsSet as ElementValue-set

-- the value of an element in hand: its identifier and its contents octets
abbrev pub element_of : Any → ElementValue
element_of a = record { id = identifier_of a.header; content = a.content.now }

-- each element has the value that its identifier and contents octets are
abbrev pub ElementBody : Parts → ElementValue → Type 0
ElementBody p v = v ≡ record { id = p.id; content = p.content }

-- the element has a definite length
abbrev pub ElementCheck : Parts → Type 0
ElementCheck p = (n : ℕ) × (p.form ≡ definite n)

-- an element can have this identifier and these contents octets
pub record IsElementValue (v : ElementValue) : Type 0 where
  pub class : v.id.class < 4
  pub number : v.id.number < 2 ^ 32
  pub content : IsOctets v.content

-- its own identifier and contents octets
pub record ElementForm (v : ElementValue) (id : Identifier) (content : List ℕ) : Type 0 where
  pub is : v ≡ record { id = id; content = content }
  pub class : id.class < 4
  pub number : id.number < 2 ^ 32
  pub octets : IsOctets content

-- elements of any type, as elements
abbrev pub any_element : ElementGrammar Any
any_element = record {
  Value = ElementValue;
  value = element_of;
  IsValue = IsElementValue;
  IsDer = λ v. ElementForm v v.id v.content;
  Body = ElementBody;
  Check = ElementCheck;
  Form = ElementForm;
  allocates = false;
}
