-- Values with the header that they were read under, by tags whose number is known only at run time (X.690 8.14).
use Rattle.std.specs.Prelude.{◌≡◌, ◌≢◌, ◌⊎◌, ℕ, List, Some, Result, Ok, Err}
use Rattle.x690.specs.Elements.{Parts}
use Rattle.asn1_rs.specs.declared.asn1_types.any.Any.{Any}
use Rattle.asn1_rs.specs.declared.asn1_types.tagged.parser.TaggedParser.{TaggedParser}
use Rattle.asn1_headers.specs.declared.class.Class.{Class}
use Rattle.asn1_headers.specs.declared.header.Header.{Header}
use Rattle.asn1_headers.specs.declared.tag.Tag.{Tag}
use Rattle.asn1_headers.specs.declared.error.Error.{Error}
use Rattle.asn1_headers.specs.declared.error.Error.TheVariants.{UnexpectedTag, UnexpectedClass}
use Rattle.asn1_headers.specs.declared.error.Err.{Err as Refusal}
use Rattle.asn1_headers.specs.declared.error.Err.TheVariants.{Error as refused}
use Rattle.asn1_rs.specs.Any.{parts_of}
use Rattle.asn1_headers.specs.Header.{class_of, is_constructed_of, tag_of, length_of, raw_tag_of, HasParts}
use Rattle.asn1_rs.specs.Tagged.{OfElement, ReadsWhole}

-- the header that the value was read under
abbrev pub parser_header : {K T E : Type 0} → TaggedParser K T E → Header
parser_header t = t.header

-- the value under the header
abbrev pub inner_of : {K T E : Type 0} → TaggedParser K T E → T
inner_of t = t.inner

-- The same element under that tag number: all else stays, its class and its identifier octets too.
pub record IsUnder (tag : Tag) (any other : Any) : Type 0 where
  pub header : HasParts other.header (class_of any.header) (is_constructed_of any.header) tag (length_of any.header)
      (raw_tag_of any.header)
  pub content : other.content.now ≡ any.content.now

-- What reading a value by BER in the contents octets of an element may answer. It is the value with the element's
-- header, or the value's own refusal. What follows the value there is dropped, and the rest is the element's. The
-- header is not looked at.
abbrev pub TakesExplicit : {K T E : Type 0} → (List ℕ → Result (List ℕ × T) (Refusal E) → Type 0) →
    OfElement (Result (List ℕ × TaggedParser K T E) (Refusal E))
TakesExplicit reads any rest (Ok x) =
    (x.0 ≡ rest) × (parser_header x.1 ≡ any.header) ×
    ((left : List ℕ) × reads any.content.now (Ok (left, inner_of x.1)))
TakesExplicit reads any rest (Err r) = reads any.content.now (Err r)

-- By DER the contents octets are the value's and nothing else: what is left there is refused, after the value's own
-- refusals.
abbrev pub TakesWholeContent : {K T E : Type 0} → (List ℕ → Result (List ℕ × T) (Refusal E) → Type 0) →
    (Error → E → Type 0) → OfElement (Result (List ℕ × TaggedParser K T E) (Refusal E))
TakesWholeContent reads from any rest (Ok x) = (x.0 ≡ rest) × (parser_header x.1 ≡ any.header) ×
    ReadsWhole reads from any.content.now (Ok (inner_of x.1))
TakesWholeContent reads from any rest (Err r) = ReadsWhole reads from any.content.now (Err r)

-- what checking an element and then converting it may answer:
-- its value, or the refusal of the check, or that of the conversion
abbrev pub ChecksAndConverts : {T E : Type 0} → (Parts → Result (Unit {0}) Error → Type 0) →
    (Any → Result T E → Type 0) → (Error → E → Type 0) → Any → Result T E → Type 0
ChecksAndConverts check convert from any (Ok x) = check (parts_of any) (Ok tt) × convert any (Ok x)
ChecksAndConverts check convert from any (Err e) =
    ((refusal : Error) × check (parts_of any) (Err refusal) × from refusal e) ⊎
    (check (parts_of any) (Ok tt) × convert any (Err e))

-- What converting an element under the tag number of its value's type may answer: the value with the element's own
-- header, or the refusal. The rest is the element's.
abbrev pub TakesImplicit : {K T E : Type 0} → Tag → (Any → Result T E → Type 0) →
    OfElement (Result (List ℕ × TaggedParser K T E) (Refusal E))
TakesImplicit tag converts any rest (Ok x) = (x.0 ≡ rest) × (parser_header x.1 ≡ any.header) ×
    ((other : Any) × IsUnder tag any other × converts other (Ok (inner_of x.1)))
TakesImplicit {K} {T} {E} tag converts any rest (Err r) =
    (other : Any) × IsUnder tag any other × ((e : E) × converts other (Err e) × (r ≡ refused e))

-- what looking at the tag number of a header may answer
abbrev pub TagCheckGives : Tag → Header → Result (Unit {0}) Error → Type 0
TagCheckGives tag header (Ok x) = tag_of header ≡ tag
TagCheckGives tag header (Err e) = (tag_of header ≢ tag) × (e ≡ UnexpectedTag (Some tag) (tag_of header))

-- what looking at the class of a header and then at its tag number may answer
abbrev pub HasTag : Class → Tag → Header → Result (Unit {0}) Error → Type 0
HasTag class tag header (Ok x) = (class_of header ≡ class) × (tag_of header ≡ tag)
HasTag class tag header (Err e) =
    ((class_of header ≢ class) × (e ≡ UnexpectedClass (Some class) (class_of header))) ⊎
    ((class_of header ≡ class) × TagCheckGives tag header (Err e))

-- What asking something of the header of what was read may answer: what was read and the rest, or the refusal.
abbrev pub Asks : {K T E : Type 0} → (Header → Result (Unit {0}) Error → Type 0) → (Error → E → Type 0) → List ℕ →
    TaggedParser K T E → Result (List ℕ × TaggedParser K T E) (Refusal E) → Type 0
Asks asks from rest parser (Ok x) = asks (parser_header parser) (Ok tt) × (x.0 ≡ rest) × (x.1 ≡ parser)
Asks {K} {T} {E} asks from rest parser (Err r) =
    (refusal : Error) × asks (parser_header parser) (Err refusal) × ((e : E) × from refusal e × (r ≡ refused e))

-- what a reader may answer that asks that of what it read: the refusal of the reading comes first
abbrev pub Expects : {K T E : Type 0} → (List ℕ → Result (List ℕ × TaggedParser K T E) (Refusal E) → Type 0) →
    (Header → Result (Unit {0}) Error → Type 0) → (Error → E → Type 0) → List ℕ →
    Result (List ℕ × TaggedParser K T E) (Refusal E) → Type 0
Expects {K} {T} {E} reads asks from input (Ok x) = (rest : List ℕ) × (parser : TaggedParser K T E) ×
    reads input (Ok (rest, parser)) × Asks asks from rest parser (Ok x)
Expects {K} {T} {E} reads asks from input (Err r) = reads input (Err r) ⊎
    ((rest : List ℕ) × (parser : TaggedParser K T E) × reads input (Ok (rest, parser)) ×
    Asks asks from rest parser (Err r))
