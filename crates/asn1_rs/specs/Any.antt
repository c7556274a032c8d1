-- Elements in hand, and what reading one may answer.
pub mod Decoded
pub mod Kept
pub mod Text
pub mod Value
pub mod Writing
use Rattle.std.specs.Prelude.{◌≡◌, ◌≢◌, ◌⊎◌, ℕ, List, ◌++◌, length, Some, Result, Ok, Err}
use Rattle.std.specs.Borrow.{Bor}
use Rattle.std.specs.Fn.{Once, FnOnceTakesAt}
use Rattle.x690.specs.Lengths.{definite, indefinite}
use Rattle.x690.specs.Elements.{Parts, IsDerElement}
use Rattle.x690.specs.Faults.{Fault, DerElementFault}
use Rattle.asn1_rs.specs.declared.asn1_types.any.Any.{Any}
use Rattle.asn1_headers.specs.declared.class.Class.{Class}
use Rattle.asn1_headers.specs.declared.tag.Tag.{Tag}
use Rattle.asn1_headers.specs.declared.error.Error.{Error}
use Rattle.asn1_headers.specs.declared.error.Error.TheVariants.{UnexpectedTag, UnexpectedClass}
use Rattle.asn1_headers.specs.declared.error.Error.TheVariants.{IndefiniteLengthUnexpected}
use Rattle.asn1_headers.specs.declared.error.Err.{Err as Refusal}
use Rattle.asn1_headers.specs.declared.error.Err.TheVariants.{Error as refused}
use Rattle.asn1_headers.specs.Error.{Converted}
use Rattle.asn1_headers.specs.Class.{class_number}
use Rattle.asn1_headers.specs.Elements.{element_parts, BeginsWithHeaderAndContents}
use Rattle.asn1_headers.specs.Header.Reading.{Refused, der_refusal, ber_refusal}
use Rattle.asn1_headers.specs.Answers.{HasPrefix, Speaks}
use Rattle.x690.specs.Nested.{IsElement, ElementFault}
use Rattle.asn1_headers.specs.Ber.{max_depth}

-- what an element in hand is made of, whether it was read or made by hand
abbrev pub parts_of : Any → Parts
parts_of a = element_parts a.header a.content.now

-- The element, with its identifier octets kept, begins the input, and the rest follows.
abbrev pub BeginsWithAny : (List ℕ → Parts → Type 0) → List ℕ → Any → List ℕ → Type 0
BeginsWithAny ElementOf input any rest = BeginsWithHeaderAndContents ElementOf input any.header any.content.now rest

-- what a reader of elements may answer: the element and the rest, or the refusal of the first fault
abbrev pub AnyGives : (List ℕ → Parts → Type 0) → (List ℕ → Fault → Type 0) → (Fault → Refusal Error) → List ℕ →
    Result (List ℕ × Any) (Refusal Error) → Type 0
AnyGives ElementOf FaultOf refusal input (Ok x) = BeginsWithAny ElementOf input x.1 x.0
AnyGives ElementOf FaultOf refusal input (Err r) = Refused FaultOf refusal input r

-- the conversion to an element is the element: its header, with the identifier octets that it keeps, and its contents
-- octets. Where they lie in memory is not compared, so an element that is made anew of the same header and octets is
-- it.
abbrev pub IsTheElement : Any → Result Any Error → Type 0
IsTheElement any (Ok same) = (same.header ≡ any.header) × (same.content.now ≡ any.content.now)
IsTheElement any (Err e) = ⊥

-- the length is definite, or that is refused
abbrev pub IsDefiniteOr : Parts → Result (Unit {0}) Error → Type 0
IsDefiniteOr p (Ok x) = (n : ℕ) × (p.form ≡ definite n)
IsDefiniteOr p (Err e) = (p.form ≡ indefinite) × (e ≡ IndefiniteLengthUnexpected)

-- What looking at the tag number of an element and then at its class, and handing its contents octets to a reader,
-- may answer. The rest is the element's.
abbrev pub HandsOn : {T E : Type 0} → Class → Tag → (Error → E → Type 0) →
    (List ℕ → Result (Bor (List ℕ) × T) (Refusal E) → Type 0) → Parts → List ℕ →
    Result (List ℕ × T) (Refusal E) → Type 0
HandsOn class tag from reads p rest (Ok x) =
    (p.id.number ≡ tag.0) × (p.id.class ≡ class_number class) × (x.0 ≡ rest) ×
    ((left : Bor (List ℕ)) × reads p.content (Ok (left, x.1)))
HandsOn {T} {E} class tag from reads p rest (Err r) =
    (actual : Class) × (p.id.class ≡ class_number actual) × (
    ((p.id.number ≢ tag.0) ×
    ((e : E) × from (UnexpectedTag (Some tag) (record { 0 = p.id.number })) e × (r ≡ refused e))) ⊎
    ((p.id.number ≡ tag.0) × (actual ≢ class) ×
    ((e : E) × from (UnexpectedClass (Some class) actual) e × (r ≡ refused e))) ⊎
    ((p.id.number ≡ tag.0) × (actual ≡ class) × reads p.content (Err r)))

-- this holds of the contents octets of the element that begins the input, where the element is such
abbrev pub TakesContent : (List ℕ → Parts → Type 0) → (Parts → Type 0) → (List ℕ → Type 0) → List ℕ → Type 0
TakesContent ElementOf IsSuch Takes input =
    (p : Parts) (rest : List ℕ) → HasPrefix ElementOf input p rest → IsSuch p → Takes p.content

-- its tag number and its class are these
abbrev pub HasClassAndTag : Class → Tag → Parts → Type 0
HasClassAndTag class tag p = (p.id.number ≡ tag.0) × (p.id.class ≡ class_number class)

-- a closure that is called once may be called at them, where tag number and class are these
abbrev pub TakesTagged : {F R : Type 0} → (List ℕ → Parts → Type 0) → Class → Tag → Once F (Bor (List ℕ) × Unit {0}) R →
    F → List ℕ → Type 0
TakesTagged ElementOf class tag g f = TakesContent ElementOf (HasClassAndTag class tag) (FnOnceTakesAt g f)

-- what reading an element and then that may answer: a refusal is that of the element's first fault,
-- or that of what follows
abbrev pub AndThenGives : {T E : Type 0} → (List ℕ → Parts → Type 0) → (List ℕ → Fault → Type 0) →
    (Fault → Refusal Error) → Class → Tag → (Error → E → Type 0) →
    (List ℕ → Result (Bor (List ℕ) × T) (Refusal E) → Type 0) → List ℕ → Result (List ℕ × T) (Refusal E) → Type 0
AndThenGives ElementOf FaultOf refusal class tag from reads input (Ok x) =
    (p : Parts) × (rest : List ℕ) × HasPrefix ElementOf input p rest × HandsOn class tag from reads p rest (Ok x)
AndThenGives ElementOf FaultOf refusal class tag from reads input (Err r) =
    ((fault : Fault) × FaultOf input fault × Converted from (refusal fault) r) ⊎
    ((p : Parts) × (rest : List ℕ) × HasPrefix ElementOf input p rest × HandsOn class tag from reads p rest (Err r))

-- the answers of the readers of elements by DER and by BER
abbrev pub DerElementGives : List ℕ → Result (List ℕ × Any) (Refusal Error) → Type 0
DerElementGives = AnyGives IsDerElement DerElementFault der_refusal

-- What reading an element by BER may answer.
abbrev pub BerElementGives : List ℕ → Result (List ℕ × Any) (Refusal Error) → Type 0
BerElementGives = AnyGives (IsElement max_depth) (ElementFault max_depth) ber_refusal

-- no element begins the input after a refusal, nor more octets of which the refusal speaks
abbrev pub RefusalLasts : (List ℕ → Parts → Type 0) → (List ℕ → Type 0) → List ℕ → Refusal Error → Type 0
RefusalLasts ElementOf IsTruncated input r = (more word rest : List ℕ) (p : Parts) → Speaks (IsTruncated input) r more →
    ElementOf word p → input ++ more ≡ word ++ rest → ⊥

-- no other element begins the input, whatever follows
abbrev pub ElementLasts : (List ℕ → Parts → Type 0) → List ℕ → List ℕ → Any → Type 0
ElementLasts ElementOf input rest any = (more word tail : List ℕ) (p : Parts) → ElementOf word p →
    input ++ more ≡ word ++ tail → (p ≡ parts_of any) × (tail ≡ rest ++ more)
