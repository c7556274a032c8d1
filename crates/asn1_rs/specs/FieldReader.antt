-- Sequences of fields that are read one after another.
use Rattle.std.specs.Prelude.{◌≡◌, ◌≢◌, ◌⊎◌, List, ℕ, true, false, Some, Result, Ok, Err}
use Rattle.x690.specs.Elements.{Parts, IsDerElement}
use Rattle.x690.specs.Faults.{Fault}
use Rattle.asn1_headers.specs.Answers.{HasPrefix}
use Rattle.asn1_headers.specs.Class.{class_number}
use Rattle.asn1_headers.specs.Header.Reading.{Refused}
use Rattle.asn1_headers.specs.declared.class.Class.{Class}
use Rattle.asn1_headers.specs.declared.class.Class.TheVariants as classes
use Rattle.asn1_headers.specs.declared.error.Err.{Err as Refusal}
use Rattle.asn1_headers.specs.declared.error.Err.TheVariants.{Error as refused}
use Rattle.asn1_headers.specs.declared.error.Error.{Error}
use Rattle.asn1_headers.specs.declared.error.Error.TheVariants as errors
use Rattle.asn1_headers.specs.Error.{FlattenedTo}
use Rattle.asn1_rs.specs.declared.field_reader.FieldReader.{FieldReader}

-- the octets that are still to be read
abbrev pub fields_left : FieldReader → List ℕ
fields_left fields = fields.left.now

-- an element is a sequence
abbrev pub IsSequence : Parts → Type 0
IsSequence p = (p.id.class ≡ 0) × (p.id.constructed ≡ true) × (p.id.number ≡ 16)

-- or it is none, for its class, its constructed bit, its tag number, of which the first that is another tells
abbrev pub IsNoSequence : Parts → Error → Type 0
IsNoSequence p e =
    ((actual : Class) × (p.id.class ≡ class_number actual) × (actual ≢ classes.Universal) ×
    (e ≡ errors.UnexpectedClass (Some classes.Universal) actual)) ⊎
    ((p.id.class ≡ 0) × (p.id.constructed ≡ false) × (e ≡ errors.ConstructExpected)) ⊎
    ((p.id.class ≡ 0) × (p.id.constructed ≡ true) × (p.id.number ≢ 16) ×
    (e ≡ errors.UnexpectedTag (Some (record { 0 = 16 })) (record { 0 = p.id.number })))

-- a sequence by this grammar, with these contents octets, begins the octets, and the rest follows
pub record BeginsWithSequence (ElementOf : List ℕ → Parts → Type 0) (octets content rest : List ℕ) : Type 0 where
  pub parts : Parts
  pub front : HasPrefix ElementOf octets parts rest
  pub sequence : IsSequence parts
  pub content_is : parts.content ≡ content

-- no element begins the octets, or one that is no sequence
abbrev pub RefusesSequence : (List ℕ → Parts → Type 0) → (List ℕ → Fault → Type 0) → (Fault → Refusal Error) → List ℕ →
    Refusal Error → Type 0
RefusesSequence ElementOf FaultOf refusal octets r = Refused FaultOf refusal octets r ⊎ ((p : Parts) × (rest : List ℕ) ×
    (e : Error) × HasPrefix ElementOf octets p rest × IsNoSequence p e × (r ≡ refused e))

-- What reading the fields of a sequence may answer: its contents octets and the rest, or the refusal.
abbrev pub FieldsGive : (List ℕ → Parts → Type 0) → (List ℕ → Fault → Type 0) → (Fault → Refusal Error) → List ℕ →
    Result (List ℕ × FieldReader) (Refusal Error) → Type 0
FieldsGive ElementOf FaultOf refusal octets (Ok x) = BeginsWithSequence ElementOf octets (fields_left x.1) x.0
FieldsGive ElementOf FaultOf refusal octets (Err r) = RefusesSequence ElementOf FaultOf refusal octets r

-- the error that a refusal becomes where no octets follow
abbrev pub BecomesError : Refusal Error → Error → Type 0
BecomesError r e = FlattenedTo (λ e f. f ≡ e) (λ e f. f ≡ e) r e

-- Before what is read stands a sequence by DER, and nothing else. Of a refusal nothing is said.
abbrev pub TakesSequence : {T : Type 0} → List ℕ → Result (List ℕ × T) (Refusal Error) → Type 0
TakesSequence octets (Ok x) = (content : List ℕ) × BeginsWithSequence IsDerElement octets content x.0
TakesSequence octets (Err r) = Unit {0}

-- This answer of a reader is handed out, and left this; or its refusal became this error, and nothing was taken.
abbrev pub HandsOut : {T : Type 0} → Result (List ℕ × T) (Refusal Error) → List ℕ → List ℕ → Result T Error → Type 0
HandsOut answer octets left (Ok x) = answer ≡ Ok (left, x)
HandsOut answer octets left (Err e) = (left ≡ octets) × ((r : Refusal Error) × (answer ≡ Err r) × BecomesError r e)

-- A reader answered this field and left this, or its refusal became this error, and nothing was taken.
abbrev pub TakesField : {T : Type 0} → (List ℕ → Result (List ℕ × T) (Refusal Error) → Type 0) → List ℕ → List ℕ →
    Result T Error → Type 0
TakesField reads octets left (Ok x) = reads octets (Ok (left, x))
TakesField reads octets left (Err e) =
    (left ≡ octets) × ((r : Refusal Error) × reads octets (Err r) × BecomesError r e)

-- The same of a sequence.
abbrev pub TakesFields : (List ℕ → Parts → Type 0) → (List ℕ → Fault → Type 0) → (Fault → Refusal Error) → List ℕ →
    List ℕ → Result FieldReader Error → Type 0
TakesFields ElementOf FaultOf refusal = TakesField (FieldsGive ElementOf FaultOf refusal)
