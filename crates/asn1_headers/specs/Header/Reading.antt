-- What reading headers may answer.
use Rattle.std.specs.Prelude.{◌≡◌, ℕ, Bool, List, ◌++◌, Result, Ok, Err, length}
use Rattle.x690.specs.Identifiers.{Identifier, IsIdentifier, IsTruncatedIdentifier}
use Rattle.x690.specs.Lengths.{IsLengthForm, LengthForm}
use Rattle.x690.specs.Rules.{Rule, ber_rule, are_shortest_length}
use Rattle.x690.specs.Elements.{IsHeader}
use Rattle.x690.specs.Faults.{Violation, identifier_violation, length_violation, form_violation, HeaderFault}
use Rattle.x690.specs.Faults.{Fault, missing, tag_fault, length_fault, rule_fault, depth_fault}
use Rattle.asn1_headers.specs.declared.tag.Tag.{Tag}
use Rattle.asn1_headers.specs.declared.length.Length.{Length}
use Rattle.asn1_headers.specs.declared.header.Header.{Header}
use Rattle.asn1_headers.specs.declared.header.reading.IdentifierOctets.{IdentifierOctets}
use Rattle.asn1_headers.specs.declared.error.Error.{Error}
use Rattle.asn1_headers.specs.declared.error.Error.TheVariants.{InvalidTag, InvalidLength, BerMaxDepth}
use Rattle.asn1_headers.specs.declared.error.Error.TheVariants.{DerConstraintFailed, ConstructExpected}
use Rattle.asn1_headers.specs.declared.error.DerConstraint.TheVariants.{IndefiniteLength}
use Rattle.asn1_headers.specs.declared.error.DerConstraint.TheVariants.{TagNotShortest, LengthNotShortest}
use Rattle.asn1_headers.specs.declared.error.Err.{Err as Refusal}
use Rattle.asn1_headers.specs.declared.error.Err.TheVariants.{Incomplete as truncated, Error as refused}
use Rattle.asn1_headers.specs.declared.error.Needed.TheVariants.{Size}
use Rattle.asn1_headers.specs.Class.{class_number}
use Rattle.asn1_headers.specs.Length.{form_of}
use Rattle.asn1_headers.specs.Answers.{Speaks}
use Rattle.asn1_headers.specs.Header.{identifier_of, KeepsLent}

-- The header, with its identifier octets kept, and lent by the input, begins it, and the rest follows.
pub record BeginsInput (rule : Rule) (input rest : List ℕ) (h : Header) : Type 0 where
  pub octets : List ℕ
  pub header : IsHeader rule octets (identifier_of h) (form_of h.length)
  pub is : input ≡ octets ++ rest
  pub raw_tag : KeepsLent header.identifier h

-- the refusal that tells of a fault, where those of headers that their rule does not allow are given
abbrev pub refusal_of : (Violation → Error) → Fault → Refusal Error
refusal_of refuses (missing n) = truncated (Size n)
refusal_of refuses tag_fault = refused InvalidTag
refusal_of refuses length_fault = refused InvalidLength
refusal_of refuses (rule_fault violation) = refused (refuses violation)
refusal_of refuses depth_fault = refused BerMaxDepth

-- by DER a header is refused for identifier octets and for length octets that are not the shortest, and for 80
abbrev pub der_violation : Violation → Error
der_violation identifier_violation = DerConstraintFailed TagNotShortest
der_violation length_violation = DerConstraintFailed LengthNotShortest
der_violation form_violation = DerConstraintFailed IndefiniteLength

-- by BER a header is refused only where a primitive element has the indefinite form
abbrev pub ber_violation : Violation → Error
ber_violation violation = ConstructExpected

-- how a fault is refused by DER
abbrev pub der_refusal : Fault → Refusal Error
der_refusal = refusal_of der_violation

-- how a fault is refused by BER
abbrev pub ber_refusal : Fault → Refusal Error
ber_refusal = refusal_of ber_violation

-- the refusal tells of a fault of the octets
abbrev pub Refused : (List ℕ → Fault → Type 0) → (Fault → Refusal Error) → List ℕ → Refusal Error → Type 0
Refused FaultOf refusal octets r = (fault : Fault) × FaultOf octets fault × (r ≡ refusal fault)

-- identifier octets that were read, with what they say
abbrev pub id_read : IdentifierOctets → Identifier
id_read x = record { class = class_number x.class; constructed = x.constructed; number = x.number }

-- the tag number that was read
abbrev pub tag_read : IdentifierOctets → Tag
tag_read x = record { 0 = x.number }

-- the identifier octets begin the input, and the rest follows
abbrev pub BeginsWithIdentifier : List ℕ → List ℕ → IdentifierOctets → Type 0
BeginsWithIdentifier input rest x = IsIdentifier x.octets.now (id_read x) × (input ≡ x.octets.now ++ rest)

-- length octets, or 80, begin the input, and the rest follows
abbrev pub BeginsWithLength : List ℕ → List ℕ → Length → Type 0
BeginsWithLength input rest length = (octets : List ℕ) × IsLengthForm octets (form_of length) × (input ≡ octets ++ rest)

-- and it is told whether they are the shortest
abbrev pub BeginsWithJudgedLength : List ℕ → List ℕ → Length → Bool → Type 0
BeginsWithJudgedLength input rest length shortest =
    (begins : BeginsWithLength input rest length) × (shortest ≡ are_shortest_length begins.0)

-- what a reader of headers may answer: the header and the rest, or the refusal of the first fault
abbrev pub HeaderGives : Rule → (Fault → Refusal Error) → List ℕ → Result (List ℕ × Header) (Refusal Error) → Type 0
HeaderGives rule refusal input (Ok x) = BeginsInput rule input x.0 x.1
HeaderGives rule refusal input (Err r) = Refused (HeaderFault rule) refusal input r

-- The header's identifier octets are those at the front of the octets, and it keeps them, lent.
abbrev pub KeepsIdentifier : List ℕ → Header → Type 0
KeepsIdentifier input h = (identifier rest : List ℕ) × IsIdentifier identifier (identifier_of h) ×
    (input ≡ identifier ++ rest) × KeepsLent identifier h

-- a header by BER with a length of this form begins the input, and the rest follows
abbrev pub BeginsWithForm : List ℕ → List ℕ → Length → Type 0
BeginsWithForm input rest length =
    (header : List ℕ) × (id : Identifier) × IsHeader ber_rule header id (form_of length) × (input ≡ header ++ rest)

-- no header begins the input after a refusal, nor more octets of which the refusal speaks
abbrev pub HeaderRefusalLasts : Rule → List ℕ → Refusal Error → Type 0
HeaderRefusalLasts rule input r = (more front rest : List ℕ) (id : Identifier) (form : LengthForm) →
    Speaks (IsTruncatedIdentifier input) r more → IsHeader rule front id form → input ++ more ≡ front ++ rest → ⊥

-- a header that is read is the one that begins the input, by each rule and whatever follows
abbrev pub HeaderLasts : List ℕ → List ℕ → Header → Type 0
HeaderLasts input rest h =
    (rule : Rule) (more front tail : List ℕ) (id : Identifier) (form : LengthForm) → IsHeader rule front id form →
    input ++ more ≡ front ++ tail → (id ≡ identifier_of h) × (form ≡ form_of h.length) × (tail ≡ rest ++ more)
