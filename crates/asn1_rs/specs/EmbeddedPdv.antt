-- Embedded presentation data values (X.690 8.18): a data value, and what identifies its syntaxes. The contents octets
-- are read by BER, and no tag or form of the element itself is looked at.
use Rattle.std.specs.Prelude.{◌≡◌, ◌⊎◌, ◌<◌, ℕ, false, List, Option, Some, None, Result, Ok, Err, IfSome, IsUtf8, codes}
use Rattle.x690.specs.Octets.{IsOctets}
use Rattle.x690.specs.Elements.{Parts}
use Rattle.x690.specs.Faults.{Fault}
use Rattle.x690.specs.Nested.{IsElement, ElementFault}
use Rattle.asn1_headers.specs.Answers.{HasPrefix}
use Rattle.asn1_headers.specs.Ber.{max_depth}
use Rattle.asn1_headers.specs.Error.{FlattenedTo, IsInvalidValue}
use Rattle.asn1_headers.specs.Header.Reading.{ber_refusal}
use Rattle.asn1_headers.specs.declared.error.Error.{Error}
use Rattle.asn1_rs.specs.declared.asn1_types.embedded_pdv.EmbeddedPdv.{EmbeddedPdv}
use Rattle.asn1_rs.specs.declared.asn1_types.embedded_pdv.PdvIdentification.{PdvIdentification}
use Rattle.asn1_rs.specs.declared.asn1_types.embedded_pdv.PdvIdentification.TheVariants as parts
use Rattle.asn1_rs.specs.declared.asn1_types.strings.RestrictedString.{RestrictedString}
use Rattle.asn1_rs.specs.Checks.{CheckGives, ◌before◌, has_number, is_constructed, is_counted}
use Rattle.asn1_rs.specs.Integer.Octets.{integer_octets, BorrowsOctets}
use Rattle.asn1_rs.specs.Kinds.{ElementGrammar}
use Rattle.asn1_rs.specs.Oid.{OidValue, absolute, oid_cow, oid_value}
use Rattle.asn1_rs.specs.Strings.{string_text}
use Rattle.asn1_rs.specs.Tagged.{has_class}
use Rattle.std.specs.Cow.{IsBorrowedSlice}

-- Values.

-- How the syntaxes of a data value are identified, where they are known. It is by identifiers, by the contents octets
-- of the integer that numbers a context, by both, or by nothing.
pub data Identification : Type 0 where
  syntaxes : OidValue → OidValue → Identification
  syntax : OidValue → Identification
  context : List ℕ → Identification
  negotiation : List ℕ → OidValue → Identification
  transfer : OidValue → Identification
  fixed : Identification
  deriving IsSet as Identification-set

-- the identification, the text that describes the data value, where there is one, and the octets of the data value
pub record PdvValue : Type 0 where
  pub identification : Identification
  pub descriptor : Option (List ℕ)
  pub octets : List ℕ
  deriving IsSet as PdvValue-set

-- what the identification in hand says
abbrev pub identification_of : PdvIdentification → Identification
identification_of (parts.Syntaxes a t) = syntaxes (oid_value a) (oid_value t)
identification_of (parts.Syntax s) = syntax (oid_value s)
identification_of (parts.PresentationContextId c) = context (integer_octets c)
identification_of (parts.ContextNegotiation c s) = negotiation (integer_octets c) (oid_value s)
identification_of (parts.TransferSyntax s) = transfer (oid_value s)
identification_of parts.Fixed = fixed

-- the text of a descriptor, where there is one
abbrev pub descriptor_text : {K F : Type 0} → Option (RestrictedString K F) → Option (List ℕ)
descriptor_text (Some x) = Some (string_text x)
descriptor_text None = None

-- the value of what is in hand
abbrev pub pdv_value : EmbeddedPdv → PdvValue
pdv_value x = record {
  identification = identification_of x.identification;
  descriptor = descriptor_text x.data_value_descriptor;
  octets = x.data_value.now;
}

-- what an item may hold: octets, and a text
abbrev pub IsIdentification : Identification → Type 0
IsIdentification (syntaxes a t) = IsOctets a.octets × IsOctets t.octets
IsIdentification (syntax s) = IsOctets s.octets
IsIdentification (context c) = IsOctets c
IsIdentification (negotiation c s) = IsOctets c × IsOctets s.octets
IsIdentification (transfer s) = IsOctets s.octets
IsIdentification fixed = Unit {0}

-- the parts of a data value are such as an element can say
pub record IsPdv (v : PdvValue) : Type 0 where
  pub identification : IsIdentification v.identification
  pub descriptor : IfSome v.descriptor IsUtf8
  pub octets : IsOctets v.octets

-- what an identification holds is borrowed
abbrev pub BorrowsParts : PdvIdentification → Type 0
BorrowsParts (parts.Syntaxes a t) = IsBorrowedSlice (oid_cow a) × IsBorrowedSlice (oid_cow t)
BorrowsParts (parts.Syntax s) = IsBorrowedSlice (oid_cow s)
BorrowsParts (parts.PresentationContextId c) = BorrowsOctets c
BorrowsParts (parts.ContextNegotiation c s) = BorrowsOctets c × IsBorrowedSlice (oid_cow s)
BorrowsParts (parts.TransferSyntax s) = IsBorrowedSlice (oid_cow s)
BorrowsParts parts.Fixed = Unit {0}

-- What contents octets say, and why they are refused.

-- an element by BER begins the octets, and the rest follows
abbrev pub BeginsWithParts : List ℕ → Parts → List ℕ → Type 0
BeginsWithParts = HasPrefix (IsElement max_depth)

-- None does: the refusal of the first fault. Octets that are missing are told as an error,
-- since no more can follow contents octets.
abbrev pub NoFirstElement : List ℕ → Error → Type 0
NoFirstElement octets e = (fault : Fault) × ElementFault max_depth octets fault ×
    FlattenedTo (λ x y. y ≡ x) (λ x y. y ≡ x) (ber_refusal fault) e

-- two elements in turn begin the octets
pub record BeginsWithTwo (octets : List ℕ) (one other : Parts) : Type 0 where
  pub between : List ℕ
  pub rest : List ℕ
  pub first : BeginsWithParts octets one between
  pub second : BeginsWithParts between other rest

-- they do not: the refusal of the first that is none
abbrev pub NotTwo : List ℕ → Error → Type 0
NotTwo octets e =
    NoFirstElement octets e ⊎ ((one : Parts) × (between : List ℕ) × BeginsWithParts octets one between ×
    NoFirstElement between e)

-- The identification that an element says, by its tag number alone: its class is not looked at, nor is it whether it is
-- primitive. What follows two elements in turn is not looked at.
abbrev pub Identifies : Parts → Identification → Type 0
Identifies p (syntaxes a t) = (p.id.number ≡ 0) × ((one other : Parts) × BeginsWithTwo p.content one other ×
    (a ≡ absolute one.content) × (t ≡ absolute other.content))
Identifies p (syntax s) = (p.id.number ≡ 1) × (s ≡ absolute p.content)
Identifies p (context c) = (p.id.number ≡ 2) × (c ≡ p.content)
Identifies p (negotiation c s) = (p.id.number ≡ 3) ×
    ((one other : Parts) × BeginsWithTwo p.content one other × (c ≡ one.content) × (s ≡ absolute other.content))
Identifies p (transfer s) = (p.id.number ≡ 4) × (s ≡ absolute p.content)
Identifies p fixed = p.id.number ≡ 5

-- It says none: two elements are wanted and are not there, or its number is above 5.
abbrev pub SaysNone : Parts → Error → Type 0
SaysNone p e =
    (((p.id.number ≡ 0) ⊎ (p.id.number ≡ 3)) × NotTwo p.content e) ⊎
    ((5 < p.id.number) × IsInvalidValue (record { 0 = p.id.number }) (codes "not an identification") e)

-- the class context-specific, then the number
abbrev pub has_context_tag : ℕ → CheckGives
has_context_tag number = has_class 2 before has_number number

-- An element whose contents octets begin with another one, and that has the number 0 in its class.
pub record HasInner (outer inner : Parts) : Type 0 where
  pub rest : List ℕ
  pub within : BeginsWithParts outer.content inner rest
  pub tag : has_context_tag 0 outer (Ok tt)

-- its contents octets begin with none; or its class, and then its number, is another
abbrev pub HasNoInner : Parts → Error → Type 0
HasNoInner outer e = NoFirstElement outer.content e ⊎
    ((inner : Parts) × (rest : List ℕ) × BeginsWithParts outer.content inner rest × has_context_tag 0 outer (Err e))

-- the first element is such
pub record HoldsElement (content : List ℕ) (inner : Parts) (behind : List ℕ) : Type 0 where
  pub outer : Parts
  pub first : BeginsWithParts content outer behind
  pub has : HasInner outer inner

-- there is none, or it is no such
abbrev pub HoldsNone : List ℕ → Error → Type 0
HoldsNone content e = NoFirstElement content e ⊎
    ((outer : Parts) × (behind : List ℕ) × BeginsWithParts content outer behind × HasNoInner outer e)

-- what the first element holds says the identification
pub record IsIdentified (content : List ℕ) (i : Identification) (behind : List ℕ) : Type 0 where
  pub inner : Parts
  pub holds : HoldsElement content inner behind
  pub says : Identifies inner i

-- it holds nothing, or what says nothing
abbrev pub NotIdentified : List ℕ → Error → Type 0
NotIdentified content e =
    HoldsNone content e ⊎ ((inner : Parts) × (behind : List ℕ) × HoldsElement content inner behind × SaysNone inner e)

-- the next element has the number 2 in its class, and its contents octets are the data value
pub record IsData (octets value : List ℕ) : Type 0 where
  pub parts : Parts
  pub rest : List ℕ
  pub element : BeginsWithParts octets parts rest
  pub tag : has_context_tag 2 parts (Ok tt)
  pub is : value ≡ parts.content

-- there is none, or its class or its number is another
abbrev pub NoData : List ℕ → Error → Type 0
NoData octets e =
    NoFirstElement octets e ⊎ ((p : Parts) × (rest : List ℕ) × BeginsWithParts octets p rest ×
    has_context_tag 2 p (Err e))

-- The contents octets begin with an identification, and then a data value. What follows is not looked at.
pub record HasPdvParts (content : List ℕ) (i : Identification) (value : List ℕ) : Type 0 where
  pub behind : List ℕ
  pub identified : IsIdentified content i behind
  pub data_value : IsData behind value

-- they begin with no identification, or there is no data value behind it
abbrev pub LacksPart : List ℕ → Error → Type 0
LacksPart content e = NotIdentified content e ⊎
    ((i : Identification) × (behind : List ℕ) × IsIdentified content i behind × NoData behind e)

-- The value that the contents octets say. No text that describes it is read.
abbrev pub PdvBody : Parts → PdvValue → Type 0
PdvBody p v = HasPdvParts p.content v.identification v.octets × (v.descriptor ≡ None)

-- what the conversion may answer: the value, whose parts are borrowed,
-- or the refusal of the first part that is not there
abbrev pub PdvGives : Parts → Result EmbeddedPdv Error → Type 0
PdvGives p (Ok x) = PdvBody p (pdv_value x) × BorrowsParts x.identification
PdvGives p (Err e) = LacksPart p.content e

-- by DER its length is definite, and it is constructed
abbrev pub pdv_constraints : CheckGives
pdv_constraints = is_counted before is_constructed

-- It is read and not written: it has no value in DER form, and no strict parts.
abbrev pub pdv_element : ElementGrammar EmbeddedPdv
pdv_element = record {
  Value = PdvValue;
  value = pdv_value;
  IsValue = IsPdv;
  IsDer = λ v. ⊥;
  Body = PdvBody;
  Check = λ p. pdv_constraints p (Ok tt);
  Form = λ v i c. ⊥;
  allocates = false;
}
