-- A header and the contents octets behind it, and what reading both may answer.
use Rattle.std.specs.Prelude.{List, ℕ, Result, Ok, Err}
use Rattle.std.specs.Borrow.{Bor}
use Rattle.x690.specs.Elements.{Parts}
use Rattle.x690.specs.Faults.{Fault}
use Rattle.asn1_headers.specs.declared.error.Error.{Error}
use Rattle.asn1_headers.specs.declared.error.Err.{Err as Refusal}
use Rattle.asn1_headers.specs.declared.header.Header.{Header}
use Rattle.asn1_headers.specs.Answers.{HasPrefix}
use Rattle.asn1_headers.specs.Header.{identifier_of}
use Rattle.asn1_headers.specs.Header.Reading.{Refused, KeepsIdentifier}
use Rattle.asn1_headers.specs.Length.{form_of}

-- what an element with this header and these contents octets is made of
abbrev pub element_parts : Header → List ℕ → Parts
element_parts h content = record { id = identifier_of h; form = form_of h.length; content = content }

-- The element, with its identifier octets kept, begins the input, and the rest follows.
pub record BeginsWithHeaderAndContents (ElementOf : List ℕ → Parts → Type 0) (input : List ℕ) (h : Header)
    (content rest : List ℕ) : Type 0 where
  pub front : HasPrefix ElementOf input (element_parts h content) rest
  pub kept : KeepsIdentifier input h

-- what a reader of elements may answer: the header, the contents octets and the rest, or the refusal of the first fault
abbrev pub HeaderAndContentsGive : (List ℕ → Parts → Type 0) → (List ℕ → Fault → Type 0) → (Fault → Refusal Error) →
    List ℕ → Result (List ℕ × (Header × Bor (List ℕ))) (Refusal Error) → Type 0
HeaderAndContentsGive ElementOf FaultOf refusal input (Ok x) =
    BeginsWithHeaderAndContents ElementOf input x.1.0 x.1.1.now x.0
HeaderAndContentsGive ElementOf FaultOf refusal input (Err r) = Refused FaultOf refusal input r
