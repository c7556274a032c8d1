-- Elements that may be there or not, by their tag number.
use Rattle.std.specs.Prelude.{◌≡◌, ◌≢◌, ◌⊎◌, ℕ, List, [], Option, Some, None, Result, Ok, Err}
use Rattle.std.specs.Borrow.{Bor}
use Rattle.std.specs.Fn.{Once}
use Rattle.x690.specs.Elements.{Parts}
use Rattle.x690.specs.Faults.{Fault}
use Rattle.asn1_headers.specs.declared.class.Class.{Class}
use Rattle.asn1_headers.specs.declared.header.Header.{Header}
use Rattle.asn1_headers.specs.declared.tag.Tag.{Tag}
use Rattle.asn1_headers.specs.declared.error.Error.{Error}
use Rattle.asn1_headers.specs.declared.error.Err.{Err as Refusal}
use Rattle.asn1_headers.specs.Header.{class_of, tag_of}
use Rattle.asn1_rs.specs.Tagged.{OfElement, ThenGives, IsOtherClass, TakesOfHeader, HoldsOfNumber}

-- What looking for an element of this tag number may answer at the one that is there. With another number it is not the
-- one that is looked for, and the input stays whole. Else it has this class, and header and contents octets are read;
-- the rest is the element's.
abbrev pub TakesOption : {T E : Type 0} → Class → Tag → (Error → E → Type 0) →
    (Header → List ℕ → Result (Bor (List ℕ) × T) (Refusal E) → Type 0) → List ℕ →
    OfElement (Result (List ℕ × Option T) (Refusal E))
TakesOption {T} {E} class tag from reads input any rest (Ok x) =
    ((tag_of any.header ≢ tag) × (x.1 ≡ None) × (x.0 ≡ input)) ⊎
    ((tag_of any.header ≡ tag) × (class_of any.header ≡ class) × (x.0 ≡ rest) ×
    ((left : Bor (List ℕ)) × (value : T) × reads any.header any.content.now (Ok (left, value)) × (x.1 ≡ Some value)))
TakesOption class tag from reads input any rest (Err r) = (tag_of any.header ≡ tag) ×
    (IsOtherClass from class (class_of any.header) r ⊎
    ((class_of any.header ≡ class) × reads any.header any.content.now (Err r)))

-- A closure that is called once may be called at the header and the contents octets of the element that begins the
-- input. It is asked so where the element's tag number and class are these.
abbrev pub TakesFound : {F R : Type 0} → (List ℕ → Parts → Type 0) → Class → Tag →
    Once F (Header × (Bor (List ℕ) × Unit {0})) R → F → List ℕ → Type 0
TakesFound ElementOf class tag g f =
    HoldsOfNumber ElementOf tag (λ any. class_of any.header ≡ class → TakesOfHeader g f any.header any.content.now)

-- What looking for it at the front of an input may answer. It is no element where the input is empty, else what is said
-- of the element that is read.
abbrev pub OptTaggedGives : {T E : Type 0} → (List ℕ → Parts → Type 0) → (List ℕ → Fault → Type 0) →
    (Fault → Refusal Error) → Class → Tag → (Error → E → Type 0) →
    (Header → List ℕ → Result (Bor (List ℕ) × T) (Refusal E) → Type 0) → List ℕ →
    Result (List ℕ × Option T) (Refusal E) → Type 0
OptTaggedGives ElementOf FaultOf refusal class tag from reads input answer =
    ((input ≡ []) × (answer ≡ Ok ([], None))) ⊎
    ((input ≢ []) × ThenGives ElementOf FaultOf refusal from (TakesOption class tag from reads input) input answer)
