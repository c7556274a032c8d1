-- Headers and elements of definite length (X.690 8.1.1, 10.1).
use Rattle.std.specs.Prelude.{◌≡◌, ℕ, ◌<◌, ◌^◌, true, List, ◌++◌, length}
use Rattle.x690.specs.Octets.{IsOctets, BeginsWith}
use Rattle.x690.specs.Identifiers.{Identifier, IsIdentifier, IsStrictIdentifier}
use Rattle.x690.specs.Lengths.{LengthForm, definite, IsLengthForm, IsStrictLength}
use Rattle.x690.specs.Rules.{Rule, der_rule, allows_form}

-- identifier octets, and then length octets
pub record IsHeader (rule : Rule) (octets : List ℕ) (id : Identifier) (form : LengthForm) : Type 0 where
  pub identifier : List ℕ
  pub count : List ℕ
  pub is : octets ≡ identifier ++ count
  pub identifier_is : IsIdentifier identifier id
  pub count_is : IsLengthForm count form
  pub identifier_allowed : rule.allows_identifier identifier ≡ true
  pub count_allowed : allows_form rule id count form ≡ true

-- what an element is made of
pub record Parts : Type 0 where
  pub id : Identifier
  pub form : LengthForm
  pub content : List ℕ

-- the parts that an element can have
pub record ArePossible (parts : Parts) : Type 0 where
  pub class : parts.id.class < 4
  pub number : parts.id.number < 2 ^ 32
  pub content : IsOctets parts.content

-- a header that counts the contents octets, and then these
pub record IsDefiniteElement (rule : Rule) (octets : List ℕ) (parts : Parts) : Type 0 where
  pub header : List ℕ
  pub header_is : IsHeader rule header parts.id parts.form
  pub counted : parts.form ≡ definite (length parts.content)
  pub content_octets : IsOctets parts.content
  pub is : octets ≡ header ++ parts.content

-- an element by DER (an element by BER is one of definite length by its rule, or of indefinite length)
abbrev pub IsDerElement : List ℕ → Parts → Type 0
IsDerElement = IsDefiniteElement der_rule

-- the strict identifier, the strict length of the contents octets, and these
pub record IsStrictElement (octets : List ℕ) (id : Identifier) (content : List ℕ) : Type 0 where
  pub identifier : List ℕ
  pub count : List ℕ
  pub identifier_is : IsStrictIdentifier identifier id
  pub count_is : IsStrictLength count (length content)
  pub content_octets : IsOctets content
  pub is : octets ≡ identifier ++ (count ++ content)

-- the rule allows what a writer writes
pub record AllowsStrict (rule : Rule) : Type 0 where
  pub identifier : (octets : List ℕ) (id : Identifier) → IsStrictIdentifier octets id →
      rule.allows_identifier octets ≡ true
  pub length : (octets : List ℕ) (n : ℕ) → IsStrictLength octets n → rule.allows_length octets ≡ true

-- a header by the rule begins the octets
abbrev pub BeginsWithHeader : Rule → List ℕ → Type 0
BeginsWithHeader rule octets = (header : List ℕ) × (rest : List ℕ) × (id : Identifier) × (form : LengthForm) ×
    IsHeader rule header id form × BeginsWith octets header rest

-- an element begins the octets
abbrev pub BeginsWithElement : (List ℕ → Parts → Type 0) → List ℕ → Type 0
BeginsWithElement ElementOf octets =
    (word : List ℕ) × (rest : List ℕ) × (parts : Parts) × ElementOf word parts × BeginsWith octets word rest
