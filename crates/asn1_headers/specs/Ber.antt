-- Reading elements and contents octets by BER.
use Rattle.std.specs.Prelude.{ℕ, zero, suc, Bool, false, Result, Ok, Err, ◌+◌, ◌*◌, ◌≤◌, List, ◌++◌, length, ◌≡◌}
use Rattle.std.specs.Borrow.{Bor}
use Rattle.x690.specs.Lengths.{LengthForm, indefinite}
use Rattle.x690.specs.Elements.{Parts}
use Rattle.x690.specs.Nested.{IsNestedElement, EndsInIdentifier}
use Rattle.x690.specs.Nested.Contents.{IsContent, ContentFault}
use Rattle.asn1_headers.specs.declared.ber.Steps.{Steps}
use Rattle.asn1_headers.specs.declared.error.Err.{Err as Refusal}
use Rattle.asn1_headers.specs.declared.error.Err.TheVariants.{Error as refused}
use Rattle.asn1_headers.specs.declared.error.Error.{Error}
use Rattle.asn1_headers.specs.declared.error.Error.TheVariants.{BerMaxDepth, ConstructExpected}
use Rattle.asn1_headers.specs.Header.Reading.{Refused, ber_refusal}

-- how many headers were read
abbrev pub count_of : Steps → ℕ
count_of steps = steps.count

-- an element begins the input, and as many headers were counted as it has: at most half as many as it has octets
pub record CountedElement (depth : ℕ) (input rest : List ℕ) (parts : Parts) (before after : ℕ) : Type 0 where
  pub word : List ℕ
  pub headers : ℕ
  pub element : IsNestedElement depth word parts headers
  pub is : input ≡ word ++ rest
  pub counted : after ≡ before + headers
  pub half : 2 * headers ≤ length word

-- What a reader of contents octets by BER may answer, behind a header with this constructed bit and this form of
-- length, at a depth. The indefinite form is refused at a primitive header, which none that is read has.
abbrev pub BerContentGives : Bool → LengthForm → ℕ → List ℕ →
    Result (Bor (List ℕ) × Bor (List ℕ)) (Refusal Error) → Type 0
BerContentGives constructed form zero input answer = answer ≡ Err (refused BerMaxDepth)
BerContentGives false indefinite (suc depth) input answer = answer ≡ Err (refused ConstructExpected)
BerContentGives constructed form (suc depth) input (Ok x) =
    (headers : ℕ) × IsContent form depth input x.1.now x.0.now headers
BerContentGives constructed form (suc depth) input (Err r) = Refused (ContentFault form depth) ber_refusal input r

-- as many headers of the input were counted as the relation says of it
abbrev pub Counted : (List ℕ → ℕ → Type 0) → List ℕ → ℕ → ℕ → Type 0
Counted Headers input before after = (headers : ℕ) × Headers input headers × (after ≡ before + headers)

-- by BER an element is nested fifty deep at most, and no constraint is asked of it
abbrev pub max_depth : ℕ
max_depth = 50

-- where by BER the input ends within an identifier in high form
abbrev pub EndsWithin : List ℕ → Type 0
EndsWithin = EndsInIdentifier max_depth
