-- Optional values: how one that is left out is told, what their readers may answer,
-- and what is said of them by what they hold.
use Rattle.std.specs.Prelude.{◌≡◌, ◌≢◌, ◌⊎◌, ℕ, Bool, true, false, List, [], ◌++◌, Option, Some, None, Result, Ok, Err}
use Rattle.std.specs.Prelude.{if◌then◌else◌}
use Rattle.std.specs.Option.{option_map}
use Rattle.x690.specs.Octets.{IsOctets}
use Rattle.x690.specs.Identifiers.{Identifier, IsTruncatedIdentifier}
use Rattle.x690.specs.Lengths.{LengthForm}
use Rattle.x690.specs.Rules.{Rule}
use Rattle.x690.specs.Elements.{IsHeader}
use Rattle.asn1_rs.specs.declared.asn1_types.any.Any.{Any}
use Rattle.asn1_headers.specs.declared.error.Err.{Err as Refusal}
use Rattle.asn1_headers.specs.declared.error.Error.{Error}
use Rattle.asn1_headers.specs.declared.error.Error.TheVariants as errors
use Rattle.asn1_headers.specs.Answers.{ReadsBack, IsFinal, Speaks}
use Rattle.asn1_rs.specs.Grammar.Form.{IsStrict}
use Rattle.asn1_headers.specs.Header.{class_of, is_constructed_of, tag_of, length_of, HasParts}
use Rattle.asn1_rs.specs.ToDer.{Writing}

-- a header by the rule begins the octets, and has another tag number
pub record BeginsWithOther (rule : Rule) (number : ℕ) (octets : List ℕ) : Type 0 where
  pub header : List ℕ
  pub rest : List ℕ
  pub id : Identifier
  pub form : LengthForm
  pub header_is : IsHeader rule header id form
  pub is : octets ≡ header ++ rest
  pub other : id.number ≢ number

-- A value of this tag number is left out: there are no octets, or they begin with a header of another tag number.
-- Octets that no header begins do not tell that.
abbrev pub IsLeftOut : Rule → ℕ → List ℕ → Type 0
IsLeftOut rule number octets = (octets ≡ []) ⊎ BeginsWithOther rule number octets

-- a value of any tag number is left out at the end alone
abbrev pub IsAtEnd : List ℕ → Type 0
IsAtEnd octets = octets ≡ []

-- the whole answer, an Ok in Some
abbrev pub in_some : {T E : Type 0} → Result (List ℕ × T) E → Result (List ℕ × Option T) E
in_some (Ok x) = Ok (x.0, Some x.1)
in_some (Err e) = Err e

-- What a reader of optional values may answer. It is None with all octets as the rest exactly where the value is left
-- out. Else it is the whole answer of the reader of the value.
abbrev pub OptionGives : {T E : Type 0} → (List ℕ → Type 0) → (List ℕ → Result (List ℕ × T) (Refusal E) → Type 0) →
    List ℕ → Result (List ℕ × Option T) (Refusal E) → Type 0
OptionGives {T} {E} LeftOut reads octets answer =
    (LeftOut octets × (answer ≡ Ok (octets, None))) ⊎
    ((LeftOut octets → ⊥) × ((its : Result (List ℕ × T) (Refusal E)) × reads octets its × (answer ≡ in_some its)))

-- Of a strict encoding before any rest a reader of optional values answers what is held, in Some, and the rest. It may
-- answer out of memory, as the reader of the value may.
abbrev pub ReadsSomeBack : {T V E : Type 0} → (List ℕ → Result (List ℕ × Option T) (Refusal E) → Type 0) →
    (V → Identifier → List ℕ → Type 0) → (T → V) → (Refusal E → Type 0) → Type 0
ReadsSomeBack {T} {V} {E} reads Form value memory =
    (octets : List ℕ) (answer : Result (List ℕ × Option T) (Refusal E)) (v : V) (word rest : List ℕ) → IsOctets octets →
    reads octets answer →
    ∥ IsStrict Form v word ∥₁ → octets ≡ word ++ rest → ReadsBack (option_map value) memory (Some v) rest answer

-- Before a strict encoding a reader of optional values answers None, with all octets as the rest.
abbrev pub ReadsNoneBefore : {T V E : Type 0} → (List ℕ → Result (List ℕ × Option T) (Refusal E) → Type 0) →
    (V → Identifier → List ℕ → Type 0) → Type 0
ReadsNoneBefore {T} {V} {E} reads Form =
    (octets : List ℕ) (answer : Result (List ℕ × Option T) (Refusal E)) (v : V) (word rest : List ℕ) →
    reads octets answer →
    IsStrict Form v word → octets ≡ word ++ rest → answer ≡ Ok (octets, None)

-- and so where there are no octets
abbrev pub ReadsNoneAtEnd : {T E : Type 0} → (List ℕ → Result (List ℕ × Option T) (Refusal E) → Type 0) → Type 0
ReadsNoneAtEnd {T} {E} reads =
    (answer : Result (List ℕ × Option T) (Refusal E)) → reads [] answer → answer ≡ Ok ([], None)

-- A refusal of an optional value is that of the value, and it is final. No word of the value begins the octets, nor
-- more octets of which the refusal speaks.
abbrev pub RefusesAsSome : {T V E : Type 0} → (List ℕ → Result (List ℕ × Option T) (Refusal E) → Type 0) →
    (List ℕ → Result (List ℕ × T) (Refusal E) → Type 0) → (List ℕ → Type 0) → (List ℕ → V → Type 0) →
    (Refusal E → Type 0) → Type 0
RefusesAsSome {T} {V} {E} reads held IsTruncated G memory =
    (octets : List ℕ) (r : Refusal E) → IsOctets octets → reads octets (Err r) →
    held octets (Err r) × (memory r ⊎ IsFinal (IsTruncated octets) r G octets)

-- After a refusal no value is left out of more octets either of which the refusal speaks.
abbrev pub StaysIn : {T E : Type 0} → (List ℕ → Type 0) → (List ℕ → Result (List ℕ × Option T) (Refusal E) → Type 0) →
    Type 0
StaysIn {T} {E} LeftOut reads = (octets more : List ℕ) (r : Refusal E) → IsOctets octets → reads octets (Err r) →
    Speaks (IsTruncatedIdentifier octets) r more → LeftOut (octets ++ more) → ⊥

-- the error tells of another tag number than the one that was expected
abbrev pub is_of_another_tag : Error → Bool
is_of_another_tag (errors.UnexpectedTag expected actual) = true
is_of_another_tag e = false

-- the same element, whose header keeps no identifier octets
pub record IsWithoutRawTag (any bare : Any) : Type 0 where
  pub header : HasParts bare.header (class_of any.header) (is_constructed_of any.header) (tag_of any.header)
      (length_of any.header) None
  pub content : bare.content.now ≡ any.content.now

-- none in the place of an error of another tag number, and an Ok in Some
abbrev pub none_or : {T E : Type 0} → (E → Bool) → Result T E → Result (Option T) E
none_or of_tag (Ok x) = Ok (Some x)
none_or of_tag (Err e) = if of_tag e then Ok None else Err e

-- What a conversion to an optional value may answer. It is None exactly where the conversion to the value tells of
-- another tag number. Else it is the whole answer of that, an Ok in Some.
abbrev pub NoneOrConverted : {T E : Type 0} → (Any → Result T E → Type 0) → (E → Bool) → Any →
    Result (Option T) E → Type 0
NoneOrConverted {T} {E} converts of_tag any answer =
    (bare : Any) × IsWithoutRawTag any bare × ((its : Result T E) × converts bare its × (answer ≡ none_or of_tag its))

-- what the value that is held says, or else this
abbrev pub some_or : {T A : Type 0} → A → (T → A) → Option T → A
some_or other says None = other
some_or other says (Some x) = says x

-- the fact holds of the value that is held, where one is
abbrev pub InSome : {T : Type 0} → (T → Type 0) → Option T → Type 0
InSome Holds None = Unit {0}
InSome Holds (Some x) = Holds x

-- a refusal of the value that is held
abbrev pub OptionRefuses : {T E : Type 0} → (T → E → Type 0) → Option T → E → Type 0
OptionRefuses refuses None e = ⊥
OptionRefuses refuses (Some x) e = refuses x e

-- An optional value is written as what it holds; none has no octets.
abbrev pub option_writing : {T : Type 0} → Writing T → Writing (Option T)
option_writing w = record {
  tells = InSome w.tells;
  header = some_or [] w.header;
  content = some_or [] w.content;
  constructed = some_or false w.constructed;
  count_refuses = OptionRefuses w.count_refuses;
  header_refuses = OptionRefuses w.header_refuses;
  content_refuses = OptionRefuses w.content_refuses;
  refuses_first = OptionRefuses w.refuses_first;
  count_allocates = w.count_allocates;
  content_allocates = w.content_allocates;
  write_allocates = w.write_allocates;
}
