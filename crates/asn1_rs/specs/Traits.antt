-- What readers may answer that read an element, check it and convert it.
use Rattle.std.specs.Prelude.{◌≡◌, ◌⊎◌, ℕ, List, Result, Ok, Err}
use Rattle.x690.specs.Elements.{Parts, IsDerElement}
use Rattle.x690.specs.Faults.{Fault, DerElementFault}
use Rattle.asn1_rs.specs.declared.asn1_types.any.Any.{Any}
use Rattle.asn1_headers.specs.declared.error.Error.{Error}
use Rattle.asn1_headers.specs.declared.error.Err.{Err as Refusal}
use Rattle.asn1_headers.specs.declared.error.Err.TheVariants.{Error as refused}
use Rattle.asn1_headers.specs.Error.{Converted}
use Rattle.asn1_headers.specs.Header.Reading.{der_refusal, ber_refusal}
use Rattle.x690.specs.Nested.{IsElement, ElementFault}
use Rattle.asn1_rs.specs.Any.{parts_of, BeginsWithAny}
use Rattle.asn1_headers.specs.Ber.{max_depth}

-- what a conversion may answer that looks at the parts of an element alone
abbrev pub OfParts : {T E : Type 0} → (Parts → Result T E → Type 0) → Any → Result T E → Type 0
OfParts gives any answer = gives (parts_of any) answer

-- What a reader may answer that reads an element, checks it and converts it. It is the value, or the first refusal in
-- this order: that of the element's first fault, of the check, of the conversion.
abbrev pub ElementGives : {T E : Type 0} → (List ℕ → Parts → Type 0) → (List ℕ → Fault → Type 0) →
    (Fault → Refusal Error) → (Parts → Result (Unit {0}) Error → Type 0) → (Any → Result T E → Type 0) →
    (Error → E → Type 0) → List ℕ → Result (List ℕ × T) (Refusal E) → Type 0
ElementGives ElementOf FaultOf refusal check convert from input (Ok x) =
    (any : Any) × BeginsWithAny ElementOf input any x.0 × check (parts_of any) (Ok tt) × convert any (Ok x.1)
ElementGives {T} {E} ElementOf FaultOf refusal check convert from input (Err r) =
    ((fault : Fault) × FaultOf input fault × Converted from (refusal fault) r) ⊎
    ((any : Any) × (rest : List ℕ) × BeginsWithAny ElementOf input any rest ×
    (((e : Error) × check (parts_of any) (Err e) × ((f : E) × from e f × (r ≡ refused f))) ⊎
    (check (parts_of any) (Ok tt) × ((e : E) × convert any (Err e) × (r ≡ refused e)))))

-- What reading by DER may answer, for a type with this check and this conversion.
abbrev pub DerGives : {T E : Type 0} → (Parts → Result (Unit {0}) Error → Type 0) → (Any → Result T E → Type 0) →
    (Error → E → Type 0) → List ℕ → Result (List ℕ × T) (Refusal E) → Type 0
DerGives check convert from = ElementGives IsDerElement DerElementFault der_refusal check convert from

-- a check that refuses nothing
abbrev pub PassesAll : Parts → Result (Unit {0}) Error → Type 0
PassesAll p answer = answer ≡ Ok tt

-- What reading by BER may answer, for a type with this conversion.
abbrev pub BerGives : {T E : Type 0} → (Any → Result T E → Type 0) → (Error → E → Type 0) → List ℕ →
    Result (List ℕ × T) (Refusal E) → Type 0
BerGives convert from = ElementGives (IsElement max_depth) (ElementFault max_depth) ber_refusal PassesAll convert from

-- the answer is that one, with a refusal made into one of another error type
abbrev pub HasConverted : {T E : Type 0} → (Error → E → Type 0) → Result T (Refusal Error) →
    Result T (Refusal E) → Type 0
HasConverted from answer (Ok x) = answer ≡ Ok x
HasConverted from answer (Err r) = (q : Refusal Error) × (answer ≡ Err q) × Converted from q r
