-- An input that is shorter than a word, and that further octets would make begin with it, is refused.
use Rattle.std.proofs.Common.{arith, ◌≡◌, ◌∙◌, ap, sym, ℕ, ◌<◌, inl, inr, List, ◌++◌, length, append_assoc}
use Rattle.std.proofs.Common.{length-append}
use Rattle.std.specs.Prelude.{Result, Ok, Err}
use Rattle.x690.specs.Identifiers.{Identifier, IsTruncatedIdentifier}
use Rattle.x690.specs.Lengths.{LengthForm}
use Rattle.x690.specs.Elements.{Parts, IsHeader}
use Rattle.x690.specs.Rules.{Rule}
use Rattle.x690.specs.Faults.{Violation, Fault}
use Rattle.x690.specs.Laws.Headers.{header_unique}
use Rattle.x690.specs.Joined.{IsPrefixFree}
use Rattle.asn1_headers.specs.declared.error.Err.{Err as Refusal}
use Rattle.asn1_headers.specs.declared.error.Error.{Error}
use Rattle.asn1_headers.specs.declared.header.Header.{Header}
use Rattle.asn1_rs.specs.declared.asn1_types.any.Any.{Any}
use Rattle.asn1_headers.specs.Answers.{HasPrefix, Exactly, RefusedAsBeginning, RefusedBeforeEnd}
use Rattle.asn1_rs.specs.Any.{AnyGives, parts_of}
use Rattle.asn1_headers.specs.Header.Reading.{refusal_of, HeaderGives}
use Rattle.asn1_headers.specs.Header.{identifier_of}
use Rattle.asn1_headers.specs.Length.{form_of}
use Rattle.asn1_rs.specs.Laws.Any.{beginning_refused}
use Rattle.asn1_rs.specs.Laws.Readers.{AreLawfulElements}
use Rattle.asn1_rs.specs.Laws.Header.{header_beginning_refused}

-- what begins an input is no longer than it
no_longer : (input more front left word rest : List ℕ) → input ≡ front ++ left → front ≡ word →
    length input < length word → ⊥
no_longer input more front left word rest e same l =
    omega (arith, ap length e, length-append front left, ap length same, l)

-- octets behind an input stand behind its rest
moved : (input more front left word rest : List ℕ) → input ≡ front ++ left → input ++ more ≡ word ++ rest →
    front ++ (left ++ more) ≡ word ++ rest
moved input more front left word rest e h =
    sym (append_assoc front left more) ∙ ap (λ (ys : List ℕ). ys ++ more) (sym e) ∙ h

-- No word begins octets that are shorter than a word that more of them make.
pub no_prefix_of_beginning : {V : Type 0} (G : List ℕ → V → Type 0) → IsPrefixFree G →
    (input more word rest left : List ℕ) (v w : V) → HasPrefix G input v left → G word w → input ++ more ≡ word ++
    rest →
    length input < length word → ⊥
no_prefix_of_beginning G one input more word rest left v w f g e l =
    let same : (f.word ≡ word) × (v ≡ w) =
    one.one f.word word (left ++ more) rest v w f.fits g (moved input more f.word left word rest f.is e) in
    no_longer input more f.word left word rest f.is same.0 l

-- Octets shorter than an element that more of them make are refused as its beginning.
pub beginning_is_refused : (ElementOf : List ℕ → Parts → Type 0) (FaultOf : List ℕ → Fault → Type 0)
    (IsTruncated : List ℕ → Type 0) → AreLawfulElements ElementOf FaultOf IsTruncated → (refuses : Violation → Error) →
    (input more word rest : List ℕ) (p : Parts) (answer : Result (List ℕ × Any) (Refusal Error)) →
    AnyGives ElementOf FaultOf (refusal_of refuses) input answer → ElementOf word p → input ++ more ≡ word ++ rest →
    length input < length word → RefusedAsBeginning (IsTruncated input) more answer
beginning_is_refused ElementOf FaultOf IsTruncated elements at input more word rest p (Ok x) g a e l =
    absurd (no_prefix_of_beginning ElementOf elements.one input more word rest x.0 (parts_of x.1) p g.front a e l)
beginning_is_refused ElementOf FaultOf IsTruncated elements at input more word rest p (Err r) g a e l =
    beginning_refused ElementOf FaultOf IsTruncated elements at input more word rest p r g a e

-- Octets shorter than a header that more of them make are refused as its beginning.
pub header_beginning_is_refused : (rule : Rule) (refuses : Violation → Error) (input more front rest : List ℕ)
    (id : Identifier) (form : LengthForm) (answer : Result (List ℕ × Header) (Refusal Error)) →
    HeaderGives rule (refusal_of refuses) input answer → IsHeader rule front id form → input ++ more ≡ front ++ rest →
    length input < length front → RefusedAsBeginning (IsTruncatedIdentifier input) more answer
header_beginning_is_refused rule at input more front rest id form (Ok x) g h e l =
    let u = header_unique rule rule g.octets front (x.0 ++ more) rest (identifier_of x.1) id
    (form_of x.1.length) form g.header h (moved input more g.octets x.0 front rest g.is e) in
    absurd (no_longer input more g.octets x.0 front rest g.is u.0 l)
header_beginning_is_refused rule at input more front rest id form (Err r) g h e l =
    header_beginning_refused rule at input more front rest id form r g h e

-- by a reader that is exact
pub word_beginning_is_refused : {T V E : Type 0} (IsTruncated : List ℕ → Type 0) (G : List ℕ → V → Type 0) (value : T → V)
    (memory : Refusal E → Type 0) → IsPrefixFree G →
    (input : List ℕ) (answer : Result (List ℕ × T) (Refusal E)) → Exactly IsTruncated G value memory input answer →
    (more word rest : List ℕ) (v : V) → G word v → input ++ more ≡ word ++ rest → length input < length word →
    RefusedBeforeEnd memory (IsTruncated input) more answer
word_beginning_is_refused IsTruncated G value memory one input (Ok x) f more word rest v g e l =
    absurd (no_prefix_of_beginning G one input more word rest x.0 (value x.1) v f g e l)
word_beginning_is_refused IsTruncated G value memory one input (Err r) (inl m) more word rest v g e l = inl m
word_beginning_is_refused IsTruncated G value memory one input (Err r) (inr final) more word rest v g e l =
    inr (λ s. final more s word rest v e g)
