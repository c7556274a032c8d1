-- Values under an explicit tag: a constructed element of its own,
-- whose contents octets hold the value's (X.690 8.14.2).
use Rattle.std.specs.Prelude.{◌≡◌, ◌≢◌, ◌⊎◌, ℕ, ◌<◌, ◌^◌, true, List, [], Result, Ok, Err}
use Rattle.x690.specs.Identifiers.{Identifier}
use Rattle.x690.specs.Elements.{Parts, IsDerElement}
use Rattle.x690.specs.Faults.{Fault, DerElementFault}
use Rattle.x690.specs.Nested.{IsElement}
use Rattle.asn1_headers.specs.declared.error.Err.{Err as Refusal}
use Rattle.asn1_headers.specs.declared.error.Err.TheVariants.{Error as refused}
use Rattle.asn1_headers.specs.declared.error.DerConstraint.TheVariants.{TrailingOctets}
use Rattle.asn1_headers.specs.declared.error.Error.{Error}
use Rattle.asn1_headers.specs.declared.error.Error.TheVariants.{DerConstraintFailed}
use Rattle.asn1_rs.specs.declared.asn1_types.any.Any.{Any}
use Rattle.asn1_rs.specs.Any.{parts_of}
use Rattle.asn1_headers.specs.Answers.{HasPrefix}
use Rattle.asn1_headers.specs.Ber.{max_depth}
use Rattle.asn1_rs.specs.Checks.{CheckGives, IsCounted, ◌before◌, has_number, is_constructed, is_counted}
use Rattle.asn1_headers.specs.Error.{FlattenedTo, Converted}
use Rattle.asn1_rs.specs.Grammar.{DerWord, NoCheck}
use Rattle.asn1_rs.specs.Grammar.Form.{IsStrict}
use Rattle.asn1_rs.specs.Grammar.Item.{ItemGrammar, ber_words}
use Rattle.asn1_headers.specs.Header.Reading.{der_refusal}
use Rattle.asn1_rs.specs.Tagged.{ReadsWhole, has_class}

-- the tag number, the constructed bit, the class, in this order
abbrev pub tag_checks : ℕ → ℕ → CheckGives
tag_checks class number = has_number number before is_constructed before has_class class

-- An element under the tag, whose contents octets begin with a word of the value.
pub record ExplicitBody {V : Type 0} (class number : ℕ) (G : List ℕ → V → Type 0) (p : Parts) (v : V) : Type 0 where
  pub tag : tag_checks class number p (Ok tt)
  pub rest : List ℕ
  pub inner : HasPrefix G p.content v rest

-- An element under the tag, whose contents octets are a word of the value and nothing else.
pub record ExplicitWhole {V : Type 0} (class number : ℕ) (G : List ℕ → V → Type 0) (p : Parts) (v : V) : Type 0 where
  pub tag : tag_checks class number p (Ok tt)
  pub inner : G p.content v

-- An element of definite length whose contents octets are one element, by that rule, that meets the constraints.
pub record ExplicitCheck (ElementOf : List ℕ → Parts → Type 0) (Check : Parts → Type 0) (p : Parts) : Type 0 where
  pub counted : IsCounted p
  pub parts : Parts
  pub inner : ElementOf p.content parts
  pub checked : Check parts

-- the identifier of the tag
abbrev pub explicit_identifier : ℕ → ℕ → Identifier
explicit_identifier class number = record { class = class; constructed = true; number = number }

-- The strict parts. The tag is of one of the four classes and of a number that an element can have. The strict encoding
-- of the value follows.
pub record ExplicitForm {V : Type 0} (class number : ℕ) (Form : V → Identifier → List ℕ → Type 0) (v : V)
    (i : Identifier) (c : List ℕ) : Type 0 where
  pub is_class : class < 4
  pub is_number : number < 2 ^ 32
  pub id_is : i ≡ explicit_identifier class number
  pub inner : IsStrict Form v c

-- By BER the contents octets of an element begin with a word of the value; what follows it there is not looked at. By
-- DER the length is definite, and the contents octets are a word of the value. A value is in DER form where three
-- things hold. The class is one of the four. The number is one that an element can have, as each `u32` is. The value
-- within is in DER form.
abbrev pub explicit_grammar : {S T : Type 0} → ℕ → ℕ → (T → S) → ItemGrammar S → ItemGrammar T
explicit_grammar class number inner G = record {
  Value = G.Value;
  value = λ t. G.value (inner t);
  IsValue = G.IsValue;
  IsDer = λ v. (class < 4) × (number < 2 ^ 32) × G.IsDer v;
  Der = DerWord NoCheck (ExplicitWhole class number G.Der);
  Body = ExplicitBody class number (ber_words G);
  Check = ExplicitCheck (IsElement max_depth) G.Check;
  Form = ExplicitForm class number G.Form;
  allocates = G.allocates;
}

-- the value of a reader's answer, without what follows it, or its refusal; missing octets are told as an error
abbrev pub InnerTakes : {T E : Type 0} → (Error → E → Type 0) → Result (List ℕ × T) (Refusal E) → Result T E → Type 0
InnerTakes from answer (Ok value) = (rest : List ℕ) × (answer ≡ Ok (rest, value))
InnerTakes {T} {E} from answer (Err e) = (r : Refusal E) × (answer ≡ Err r) × FlattenedTo (λ x y. y ≡ x) from r e

-- What the conversion of an element may answer. It is the value that its contents octets begin with, or the refusal of
-- the tag, or the value's own.
abbrev pub ExplicitConverts : {T W E : Type 0} → ℕ → ℕ → (W → T) → (List ℕ → Result (List ℕ × T) (Refusal E) → Type 0) →
    (Error → E → Type 0) → Parts → Result W E → Type 0
ExplicitConverts class number inner reads from p (Ok w) =
    tag_checks class number p (Ok tt) × ((rest : List ℕ) × reads p.content (Ok (rest, inner w)))
ExplicitConverts {T} {W} {E} class number inner reads from p (Err e) =
    ((refusal : Error) × tag_checks class number p (Err refusal) × from refusal e) ⊎
    (tag_checks class number p (Ok tt) ×
    ((r : Refusal E) × reads p.content (Err r) × FlattenedTo (λ x y. y ≡ x) from r e))

-- What reading the value in an element may answer, by DER. It is the value that its contents octets are, or a refusal.
-- That is the tag's, the value's own, or that of the octets that are left.
abbrev pub ExplicitReads : {T E : Type 0} → ℕ → ℕ → (List ℕ → Result (List ℕ × T) (Refusal E) → Type 0) →
    (Error → E → Type 0) → Parts → Result T (Refusal E) → Type 0
ExplicitReads class number reads from p (Ok x) =
    tag_checks class number p (Ok tt) × ReadsWhole reads from p.content (Ok x)
ExplicitReads {T} {E} class number reads from p (Err r) =
    ((refusal : Error) × tag_checks class number p (Err refusal) × ((e : E) × from refusal e × (r ≡ refused e))) ⊎
    (tag_checks class number p (Ok tt) × ReadsWhole reads from p.content (Err r))

-- what the reader by DER may answer: the refusal of the element's first fault, or what reading the value in it answers
abbrev pub ExplicitGives : {T W E : Type 0} → ℕ → ℕ → (W → T) → (List ℕ → Result (List ℕ × T) (Refusal E) → Type 0) →
    (Error → E → Type 0) → List ℕ → Result (List ℕ × W) (Refusal E) → Type 0
ExplicitGives class number inner reads from input (Ok x) =
    (p : Parts) × HasPrefix IsDerElement input p x.0 × ExplicitReads class number reads from p (Ok (inner x.1))
ExplicitGives class number inner reads from input (Err r) =
    ((fault : Fault) × DerElementFault input fault × Converted from (der_refusal fault) r) ⊎ ((p : Parts) ×
    (rest : List ℕ) × HasPrefix IsDerElement input p rest × ExplicitReads class number reads from p (Err r))

-- What checking the element that was read may answer, where it is to be all of the octets. It is the check's answer,
-- and after that the refusal of what is left; or it is the refusal of the reading.
abbrev pub ChecksWhole : CheckGives → Result (List ℕ × Any) (Refusal Error) → Result (Unit {0}) Error → Type 0
ChecksWhole check (Ok x) (Ok u) = check (parts_of x.1) (Ok tt) × (x.0 ≡ [])
ChecksWhole check (Ok x) (Err e) = check (parts_of x.1) (Err e) ⊎
    (check (parts_of x.1) (Ok tt) × (x.0 ≢ []) × (e ≡ DerConstraintFailed TrailingOctets))
ChecksWhole check (Err r) (Ok u) = ⊥
ChecksWhole check (Err r) (Err e) = FlattenedTo (λ x y. y ≡ x) (λ x y. y ≡ x) r e

-- what checking the element that the contents octets are to be may answer, by the reader of elements that gives these
-- answers
abbrev pub InnerChecked : (List ℕ → Result (List ℕ × Any) (Refusal Error) → Type 0) → CheckGives → CheckGives
InnerChecked reads check p result =
    (answer : Result (List ℕ × Any) (Refusal Error)) × reads p.content answer × ChecksWhole check answer result

-- what the check of an element under the tag may answer
abbrev pub ExplicitCheckGives : (List ℕ → Result (List ℕ × Any) (Refusal Error) → Type 0) → CheckGives → CheckGives
ExplicitCheckGives reads check = is_counted before InnerChecked reads check
