-- Values under tags, and elements under tags whose number is known only at run time (X.690 8.14).
pub mod Explicit
pub mod Implicit
pub mod Optional
pub mod Headed
pub mod Helpers
pub mod Parser
pub mod Writing
use Rattle.std.specs.Prelude.{◌≡◌, ◌≢◌, ◌⊎◌, ℕ, ◌≤◌, ◌%◌, ◌^◌, List, [], Option, Some, None, Result, Ok, Err}
use Rattle.std.specs.Borrow.{Bor}
use Rattle.std.specs.Fn.{Once}
use Rattle.x690.specs.Elements.{Parts, IsDerElement}
use Rattle.x690.specs.Faults.{Fault, DerElementFault}
use Rattle.x690.specs.Nested.{IsElement, ElementFault}
use Rattle.asn1_rs.specs.declared.asn1_types.any.Any.{Any}
use Rattle.asn1_headers.specs.declared.class.Class.{Class}
use Rattle.asn1_headers.specs.declared.header.Header.{Header}
use Rattle.asn1_headers.specs.declared.tag.Tag.{Tag}
use Rattle.asn1_headers.specs.declared.error.Error.{Error}
use Rattle.asn1_headers.specs.declared.error.DerConstraint.TheVariants.{TrailingOctets}
use Rattle.asn1_headers.specs.declared.error.Error.TheVariants.{DerConstraintFailed, UnexpectedTag, UnexpectedClass}
use Rattle.asn1_headers.specs.declared.error.Err.{Err as Refusal}
use Rattle.asn1_headers.specs.declared.error.Err.TheVariants.{Error as refused}
use Rattle.asn1_rs.specs.Any.{BeginsWithAny}
use Rattle.asn1_headers.specs.Ber.{max_depth}
use Rattle.asn1_headers.specs.Error.{Converted}
use Rattle.asn1_headers.specs.Class.{class_number}
use Rattle.asn1_headers.specs.Header.{tag_of}
use Rattle.asn1_rs.specs.Checks.{CheckGives}
use Rattle.asn1_headers.specs.Header.Reading.{der_refusal, ber_refusal}

-- what a call on an element and the octets behind it may answer
abbrev pub OfElement : Type 0 → Type 1
OfElement R = Any → List ℕ → R → Type 0

-- What reading an element and then calling that on it may answer:
-- its answer, or the refusal of the element's first fault.
abbrev pub ThenGives : {T E : Type 0} → (List ℕ → Parts → Type 0) → (List ℕ → Fault → Type 0) →
    (Fault → Refusal Error) → (Error → E → Type 0) → OfElement (Result (List ℕ × T) (Refusal E)) → List ℕ →
    Result (List ℕ × T) (Refusal E) → Type 0
ThenGives ElementOf FaultOf refusal from takes input (Ok x) =
    (any : Any) × (rest : List ℕ) × BeginsWithAny ElementOf input any rest × takes any rest (Ok x)
ThenGives ElementOf FaultOf refusal from takes input (Err r) =
    ((fault : Fault) × FaultOf input fault × Converted from (refusal fault) r) ⊎
    ((any : Any) × (rest : List ℕ) × BeginsWithAny ElementOf input any rest × takes any rest (Err r))

-- the same by DER and by BER
abbrev pub ThenByDer : {T E : Type 0} → (Error → E → Type 0) → OfElement (Result (List ℕ × T) (Refusal E)) → List ℕ →
    Result (List ℕ × T) (Refusal E) → Type 0
ThenByDer = ThenGives IsDerElement DerElementFault der_refusal

-- What reading an element by BER, and then what it holds, may answer.
abbrev pub ThenByBer : {T E : Type 0} → (Error → E → Type 0) → OfElement (Result (List ℕ × T) (Refusal E)) → List ℕ →
    Result (List ℕ × T) (Refusal E) → Type 0
ThenByBer = ThenGives (IsElement max_depth) (ElementFault max_depth) ber_refusal

-- the answer is the refusal of the tag number that an element has in place of this one
abbrev pub IsOtherTag : {E : Type 0} → (Error → E → Type 0) → Tag → Tag → Refusal E → Type 0
IsOtherTag {E} from tag actual r =
    (actual ≢ tag) × ((e : E) × from (UnexpectedTag (Some tag) actual) e × (r ≡ refused e))

-- the answer is the refusal of the class that an element has in place of this one
abbrev pub IsOtherClass : {E : Type 0} → (Error → E → Type 0) → Class → Class → Refusal E → Type 0
IsOtherClass {E} from class actual r =
    (actual ≢ class) × ((e : E) × from (UnexpectedClass (Some class) actual) e × (r ≡ refused e))

-- the answer is the refusal of octets that are left where there is to be one element and nothing else
abbrev pub IsOfTrailing : {E : Type 0} → (Error → E → Type 0) → Refusal E → Type 0
IsOfTrailing {E} from r = (e : E) × from (DerConstraintFailed TrailingOctets) e × (r ≡ refused e)

-- What a reader's answer tells where the value is to be all of the octets. It is the value where nothing is left, or
-- the refusal of what is left, or the reader's own refusal.
abbrev pub WholeGives : {T E : Type 0} → (Error → E → Type 0) → Result (List ℕ × T) (Refusal E) →
    Result T (Refusal E) → Type 0
WholeGives from (Ok x) (Ok value) = (x.0 ≡ []) × (value ≡ x.1)
WholeGives from (Ok x) (Err r) = (x.0 ≢ []) × IsOfTrailing from r
WholeGives from (Err own) (Ok value) = ⊥
WholeGives from (Err own) (Err r) = r ≡ own

-- what reading a value that is to be all of the octets may answer
abbrev pub ReadsWhole : {T E : Type 0} → (List ℕ → Result (List ℕ × T) (Refusal E) → Type 0) →
    (Error → E → Type 0) → List ℕ → Result T (Refusal E) → Type 0
ReadsWhole {T} {E} reads from octets result =
    (answer : Result (List ℕ × T) (Refusal E)) × reads octets answer × WholeGives from answer result

-- a closure that is called once may give r at the header and at a reference to the octets
abbrev pub ReturnsOfHeader : {F R : Type 0} → Once F (Header × (Bor (List ℕ) × Unit {0})) R → F → Header →
    List ℕ → R → Type 0
ReturnsOfHeader g f header octets r = (p : Bor (List ℕ)) × g.post f (header, (p, tt)) r × (p.now ≡ octets)

-- and it may be called at these
abbrev pub TakesOfHeader : {F R : Type 0} → Once F (Header × (Bor (List ℕ) × Unit {0})) R → F → Header → List ℕ → Type 0
TakesOfHeader g f header octets = (p : Bor (List ℕ)) → p.now ≡ octets → g.pre f (header, (p, tt))

-- this holds of the element that begins the input, where it has this tag number
abbrev pub HoldsOfNumber : (List ℕ → Parts → Type 0) → Tag → (Any → Type 0) → List ℕ → Type 0
HoldsOfNumber ElementOf tag Holds input =
    (any : Any) (rest : List ℕ) → BeginsWithAny ElementOf input any rest → tag_of any.header ≡ tag → Holds any

-- the number of a tag, as a `u32` holds it: a parameter of this type is it
abbrev pub as_u32 : ℕ → ℕ
as_u32 number = number % 2 ^ 32

-- the class that a refusal expects, where the number is one of a class
abbrev pub IsClassOf : ℕ → Option Class → Type 0
IsClassOf class None = 4 ≤ class
IsClassOf class (Some c) = class ≡ class_number c

-- the class of this number; a number above 3 is that of none
abbrev pub has_class : ℕ → CheckGives
has_class class p (Ok x) = p.id.class ≡ class
has_class class p (Err e) = (p.id.class ≢ class) × ((expected : Option Class) × (actual : Class) ×
    IsClassOf class expected × (p.id.class ≡ class_number actual) × (e ≡ UnexpectedClass expected actual))
