-- What is said of encodings, and strict encodings of what is shown.
use Rattle.std.proofs.Common.{◌≡◌, ◌∙◌, ℕ, Bool, true, false, List, ◌++◌, length, codes, inl, inr, None, Some, Result}
use Rattle.std.proofs.Common.{Ok, Err, IfOk, IfErr, subst, refl, sym, ap, arith, length-append, ◌<◌, ◌≤◌, ◌+◌, ◌^◌}
use Rattle.std.specs.Prelude.{ℤ, pos, IsErr}
use Rattle.x690.specs.Identifiers.{Identifier}
use Rattle.x690.specs.Octets.{IsOctets}
use Rattle.asn1_rs.specs.declared.asn1_types.any.Any.{Any}
use Rattle.asn1_headers.specs.declared.class.Class.{Class}
use Rattle.asn1_headers.specs.declared.class.Class.TheVariants.{Universal, Application, ContextSpecific, Private}
use Rattle.asn1_headers.specs.declared.error.Error.{Error}
use Rattle.asn1_headers.specs.declared.error.SerializeError.{SerializeError}
use Rattle.asn1_headers.specs.Error.{written_refusal}
use Rattle.asn1_headers.specs.Class.{class_number}
use Rattle.asn1_rs.specs.Any.Value.{element_of, ElementForm}
use Rattle.asn1_headers.specs.Header.{identifier_of}
use Rattle.asn1_rs.specs.Grammar.Form.{FitsElement, HasForm, IsStrict, WritesForm, of_universal_class}
use Rattle.asn1_rs.specs.Laws.Forms.{strict_made, strict_written}
use Rattle.x690.specs.Laws.StrictLengths.{length_fits}
use Rattle.asn1_headers.specs.Writer.{MayRefuse, WriterState}
use Rattle.asn1_rs.specs.Integer.{integer_number, IntegerForm, IsUnsigned}
use Rattle.x690.specs.Strict.{element_octets}
use Rattle.x690.specs.Laws.StrictElements.{made_strict_element}
use Rattle.x690.specs.Laws.Integers.Unsigned.{unsigned_octets_content, unsigned_octets_few}
use Rattle.x690.specs.Integers.{IsIntegerContent, unsigned_octets}
use Rattle.x690.specs.Signed.{IsSigned, signed_octets}
use Rattle.x690.specs.Laws.Signed.{signed_octets_content, signed_octets_few}
use Rattle.asn1_rs.specs.ToDer.{Either, HasNone, IsRefusedAtOnce, Refuses, Writing, whole_allocates, whole_octets}
use Rattle.asn1_rs.specs.ToDer.{whole_refuses}
use Rattle.asn1_rs.specs.Kinds.Writing.{OwnWritten}
use Rattle.asn1vec_answers.specs.Shown.{AllowsOctets, AllowsRefusals, CameOfWriting, Encoding, Gains, IsUnwritten}
use Rattle.asn1vec_answers.specs.Shown.{IsWritten, IsWrittenUnless, SaysEncoding, SaysWriting, StrictEncoding}
use Rattle.asn1vec_answers.specs.Shown.{StrictEncodingIfAny}
use Rattle.asn1vec_answers.proofs.OneReading.{only_refusals}
use Rattle.asn1vec_answers.proofs.Gained.{gains_both}
use Rattle.std.proofs.lemmas.Bool.{cases_lt}
use mathlib.Core.Logic.{∥∥₁_map}

-- what is said of the writing of a value of these octets into a vector
pub written_said : (allocates : Bool) (o written : List ℕ) (own : SerializeError → Type 0) → length written < 2 ^ 64 →
    (answer : Result ℕ SerializeError) → IfOk answer (λ n. written ≡ o)
    → IfErr answer (Refuses allocates (length o) own) → ((e : SerializeError) → own e → IsErr answer)
    → (a b c : List ℕ) → b ≡ a ++ codes " enc " → Gains b c (SaysWriting written answer) →
    Gains a c (SaysEncoding (CameOfWriting allocates o own))
written_said allocates o written own few (Ok n) is may refuses a b c e (said, says, more) =
    let none : HasNone own = λ r has. (let h = refuses r has in cc) in
    let whole : CameOfWriting allocates o own (Some (Ok written)) =
    (subst (λ (l : List ℕ). length l < 2 ^ 64) is few, is, none) in (
      codes " enc " ++ said,
      (Some (Ok written), whole, ap (λ l. codes " enc " ++ l) says),
      gains_both a b c (codes " enc ") said e more,
    )
written_said allocates o written own few (Err e) is may refuses a b c same (said, says, more) = (
  codes " enc " ++ said,
  (Some (Err e), (may, says.0), ap (λ l. codes " enc " ++ l) says.1),
  gains_both a b c (codes " enc ") said same more,
)

-- a refusal of header or contents octets refuses the whole
pub whole_refused : {S : Type 0} (w : Writing S) (x : S) (allocates : Bool) (n : ℕ) (old new : WriterState)
    (answer : Result ℕ SerializeError)
    → ((e : SerializeError) → w.header_refuses x e → IsRefusedAtOnce allocates n (whole_refuses w x) old new answer) →
    ((e : SerializeError) → w.content_refuses x e → IsErr answer)
    → (e : SerializeError) → whole_refuses w x e → IsErr answer
whole_refused w x allocates n old new answer header content e (inl h) = rw (header e h).2.refused refl
whole_refused w x allocates n old new answer header content e (inr h) = content e h

-- what may be said of an encoding is said where it allows all that may come of the writing
module _ {S : Type 0} (w : Writing S) (x : S) (Encodes : Encoding → Type 0) where
  came_allowed : AllowsOctets w x Encodes →
      AllowsRefusals (MayRefuse (whole_allocates w) (length (whole_octets w x))) Encodes →
      AllowsRefusals (whole_refuses w x) Encodes
      → (encoding : Encoding) → CameOfWriting (whole_allocates w) (whole_octets w x) (whole_refuses w x) encoding →
      Encodes encoding
  came_allowed written refused own None h = absurd h
  came_allowed written refused own (Some (Ok octets)) (few, is, none) =
      subst (λ (l : List ℕ). Encodes (Some (Ok l))) (sym is) (written none few)
  came_allowed written refused own (Some (Err e)) (inl may, io) = refused e may io
  came_allowed written refused own (Some (Err e)) (inr has, io) = own e has io

  pub encoding_said : AllowsOctets w x Encodes →
      AllowsRefusals (MayRefuse (whole_allocates w) (length (whole_octets w x))) Encodes →
      AllowsRefusals (whole_refuses w x) Encodes
      → (a b : List ℕ) →
      Gains a b (SaysEncoding (CameOfWriting (whole_allocates w) (whole_octets w x) (whole_refuses w x))) →
      Gains a b (SaysEncoding Encodes)
  encoding_said written refused own a b (said, (encoding, came, is), more) =
      (said, (encoding, came_allowed written refused own encoding came, is), more)

-- what is written of a value in one element, unless it is refused for what it is
pub unless_octets : (is_refused : Bool) (refusal : Error) (own : Error → Type 0) (octets : List ℕ) → own refusal →
    HasNone (Either (OwnWritten is_refused own) (OwnWritten is_refused own)) → length octets < 2 ^ 64 →
    IsWrittenUnless is_refused refusal octets (Some (Ok octets))
unless_octets false refusal own octets its none few = (few, refl)
unless_octets true refusal own octets its none few = absurd (none (written_refusal refusal) (inl (refusal, its, refl)))

-- no length refuses it where it is, since its octets are few then
pub unless_refused : (is_refused : Bool) (refusal : Error) (octets : List ℕ) →
    (is_refused ≡ true → length octets < 2 ^ 64) →
    AllowsRefusals (MayRefuse false (length octets)) (IsWrittenUnless is_refused refusal octets)
unless_refused false refusal octets few e may io = (may, io)
unless_refused true refusal octets few e may io =
    elim (only_refusals false (length octets) e may io) [
      | inl long ↦ absurd (let short = few refl in omega (arith, short, long.1))
      | inr memory ↦ absurd (let h = memory.0 in cc)
    ]

pub unless_own : (is_refused : Bool) (refusal : Error) (own : Error → Type 0) (octets : List ℕ) →
    ((e : Error) → own e → e ≡ refusal) → AllowsRefusals
    (Either (OwnWritten is_refused own) (OwnWritten is_refused own)) (IsWrittenUnless is_refused refusal octets)
unless_own false refusal own octets only e (inl h) io = absurd h
unless_own false refusal own octets only e (inr h) io = absurd h
unless_own true refusal own octets only e (inl (f, has, is)) io =
    ap (λ (r : SerializeError). Some (Err r)) (is ∙ ap written_refusal (only f has))
unless_own true refusal own octets only e (inr (f, has, is)) io =
    ap (λ (r : SerializeError). Some (Err r)) (is ∙ ap written_refusal (only f has))

-- what is written of a value that has a strict encoding is that one
pub strict_told : {S V : Type 0} (value : S → V) (Form : V → Identifier → List ℕ → Type 0) (w : Writing S) →
    WritesForm value Form w →
    (allocates : Bool) (x : S) (o : List ℕ) → IsStrict Form (value x) o → (encoding : Encoding) →
    IsWritten allocates (whole_octets w x) encoding → StrictEncoding Form allocates (value x) encoding
strict_told value Form w writes allocates x o strict encoding written = (
  o,
  strict,
  subst (λ (l : List ℕ). IsWritten allocates l encoding) (strict_written value Form w writes x o strict).1 written,
)

-- octets past what 64 bits count are not written
unwritten : (allocates : Bool) (o : List ℕ) → 2 ^ 64 ≤ length o → (encoding : Encoding) →
    IsWritten allocates o encoding → IsUnwritten allocates encoding
unwritten allocates o long None h = absurd h
unwritten allocates o long (Some (Ok written)) (few, is) = absurd (omega (arith, few, long))
unwritten allocates o long (Some (Err e)) (may, io) =
    elim (only_refusals allocates (length o) e may io) [
      | inl past ↦ inl (ap (λ (x : SerializeError). Some (Err x)) past.0)
      | inr memory ↦ inr (memory.0, ap (λ (x : SerializeError). Some (Err x)) memory.1)
    ]

-- What is said of the encoding of a value in DER form: its strict encoding, unless the contents octets are too many.
module _ {S V : Type 0} (value : S → V) (IsDer : V → Type 0) (Form : V → Identifier → List ℕ → Type 0) (w : Writing S)
    (writes : WritesForm value Form w) (has : HasForm value IsDer Form w) (fits : FitsElement Form) where
  written_strict : (x : S) → IsDer (value x) → length (w.content x) < 2 ^ 64 →
      ∥ IsStrict Form (value x) (whole_octets w x) ∥₁
  written_strict x der few = ∥∥₁_map (has x der few) (λ f.
      subst (λ (h : List ℕ). IsStrict Form (value x) (h ++ w.content x)) (sym (writes x f.0 (w.content x) f.1).3)
      (strict_made Form fits (value x) f.0 (w.content x) f.1 few))

  too_long : (x : S) → 2 ^ 64 ≤ length (w.content x) → (o : List ℕ) → IsStrict Form (value x) o → ⊥
  too_long x long o s =
      let same : w.content x ≡ s.content = (writes x s.id s.content s.form).2 in
      let few = length_fits (length s.content) s.element.count s.element.count_is.lenient in
      omega (arith, long, few, ap length same)

  pub strict_if_any : (allocates : Bool) (x : S) → IsDer (value x) → (encoding : Encoding) →
      IsWritten allocates (whole_octets w x) encoding → StrictEncodingIfAny Form allocates (value x) encoding
  strict_if_any allocates x der encoding written =
      elim (cases_lt (length (w.content x)) (2 ^ 64)) [
        | inl few ↦ inl (whole_octets w x, written_strict x der few, written)
        | inr long ↦ inr (
          too_long x long,
          unwritten allocates (whole_octets w x)
              (omega (arith, long, length-append (w.header x) (w.content x))) encoding written,
        )
      ]

-- each number that a type holds has a strict encoding, where its contents octets are few
pub strict_number : (Holds : ℤ → Type 0) (n : ℤ) (octets : List ℕ) → Holds n → IsIntegerContent n octets →
    length octets < 2 ^ 64 → (o : List ℕ) × IsStrict (IntegerForm Holds) n o
strict_number Holds n octets held content few =
    let id = of_universal_class false integer_number in (
      element_octets id octets,
      record {
        id = id;
        content = octets;
        form = (refl, (held, content));
        element = made_strict_element id octets (omega arith) (omega arith) few content.octets;
      },
    )

pub strict_unsigned : (size k : ℕ) → size ≤ 16 → k < 256 ^ size →
    (o : List ℕ) × IsStrict (IntegerForm (IsUnsigned size)) (pos k) o
strict_unsigned size k most fits =
    let few : length (unsigned_octets k) ≤ size + 1 = unsigned_octets_few k size fits in
    strict_number (IsUnsigned size) (pos k) (unsigned_octets k) (k, refl, fits) (unsigned_octets_content k)
    (omega (arith, few))

pub strict_signed : (size : ℕ) (n : ℤ) → 1 ≤ size → size ≤ 16 → IsSigned size n →
    (o : List ℕ) × IsStrict (IntegerForm (IsSigned size)) n o
strict_signed size n some most held =
    let few = signed_octets_few n size some held in
    strict_number (IsSigned size) n (signed_octets n) held (signed_octets_content n) (omega (arith, few))

few_classes : (class : Class) → class_number class < 4
few_classes Universal = omega arith
few_classes Application = omega arith
few_classes ContextSpecific = omega arith
few_classes Private = omega arith

-- each element in hand has a strict encoding, whatever length its header has
pub strict_element : (a : Any) → a.header.tag.0 < 2 ^ 32 → IsOctets a.content.now → length a.content.now < 2 ^ 64 →
    IsStrict ElementForm (element_of a) (element_octets (identifier_of a.header) a.content.now)
strict_element a number octets few =
    let id = identifier_of a.header in
    let class = few_classes a.header.class in
    record {
      id = id;
      content = a.content.now;
      form = record { is = refl; class = class; number = number; octets = octets };
      element = made_strict_element id a.content.now class number few octets;
    }
