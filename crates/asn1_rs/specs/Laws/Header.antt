-- What readers of headers say of more octets, and that they have one refusal.
use Rattle.std.proofs.Common.{◌≡◌, ◌∙◌, ap, sym, ℕ, List, ◌++◌, append_assoc}
use Rattle.std.specs.Prelude.{Result, Ok, Err, IfErr}
use Rattle.std.specs.Borrow.{Bor}
use Rattle.x690.specs.Identifiers.{Identifier, IsTruncatedIdentifier}
use Rattle.x690.specs.Lengths.{LengthForm}
use Rattle.x690.specs.Rules.{Rule}
use Rattle.x690.specs.Elements.{IsHeader}
use Rattle.x690.specs.Faults.{Violation, tag_fault}
use Rattle.x690.specs.Laws.Headers.{header_unique}
use Rattle.x690.specs.Laws.Faults.Beginnings.{truncated_header_fault, header_beginning}
use Rattle.x690.specs.Laws.Faults.{no_header, header_or_fault, header_fault_counts, one_header_fault}
use Rattle.asn1_headers.specs.declared.error.Err.{Err as Refusal}
use Rattle.asn1_headers.specs.declared.error.Err.TheVariants.{Error as refused}
use Rattle.asn1_headers.specs.declared.error.Error.{Error}
use Rattle.asn1_headers.specs.declared.error.Error.TheVariants.{InvalidTag}
use Rattle.asn1_headers.specs.declared.header.Header.{Header}
use Rattle.asn1_headers.specs.Answers.{seen, TellsBeginning}
use Rattle.asn1_headers.specs.Header.{identifier_of}
use Rattle.asn1_headers.specs.Header.Reading.{refusal_of, HeaderGives, HeaderLasts, HeaderRefusalLasts}
use Rattle.asn1_headers.specs.Length.{form_of}
use Rattle.asn1_rs.specs.Laws.Readers.{speaks_itself}
use Rattle.asn1_rs.specs.Laws.Any.{tells_beginning}

-- Refusals of headers.

-- What a refusal of a header says of more octets holds of them.
pub header_refusal_lasts : (rule : Rule) (refuses : Violation → Error) (input : List ℕ)
    (answer : Result (Bor (List ℕ) × Header) (Refusal Error)) →
    HeaderGives rule (refusal_of refuses) input (seen answer) → IfErr answer (HeaderRefusalLasts rule input)
header_refusal_lasts rule at input (Ok x) g = tt
header_refusal_lasts rule at input (Err r) g = λ more front rest id form s h e.
    no_header rule input more front rest id form g.0 g.1
    (speaks_itself at g.0 r (IsTruncatedIdentifier input) more (header_fault_counts rule input g.0 g.1) g.2 s) h e

-- an input has one refusal
pub one_header_refusal : (rule : Rule) (refuses : Violation → Error) (input : List ℕ) (q r : Refusal Error) →
    HeaderGives rule (refusal_of refuses) input (Err q) → HeaderGives rule (refusal_of refuses) input (Err r) → q ≡ r
one_header_refusal rule at input q r f g =
    f.2 ∙ ap (refusal_of at) (one_header_fault rule input f.0 g.0 f.1 g.1) ∙ sym g.2

-- where a header begins an input there is no refusal of it
pub header_or_refusal : (rule : Rule) (refuses : Violation → Error) (input : List ℕ) (x : List ℕ × Header)
    (r : Refusal Error) → HeaderGives rule (refusal_of refuses) input (Ok x) →
    HeaderGives rule (refusal_of refuses) input (Err r) → ⊥
header_or_refusal rule at input x r f g =
    header_or_fault rule input f.octets x.0 (identifier_of x.1) (form_of x.1.length) g.0 g.1 f.header f.is

-- More octets behind a header, and fewer of it.

-- A header that was read is read with more octets behind it, too.
pub header_lasts : (rule : Rule) (refuses : Violation → Error) (input : List ℕ) (x : List ℕ × Header) →
    HeaderGives rule (refusal_of refuses) input (Ok x) → HeaderLasts input x.0 x.1
header_lasts rule at input x g = λ other more front tail id form h e.
    let s : g.octets ++ (x.0 ++ more) ≡ front ++ tail =
    sym (append_assoc g.octets x.0 more) ∙ ap (λ (ys : List ℕ). ys ++ more) (sym g.is) ∙ e in
    let u = header_unique rule other g.octets front (x.0 ++ more) tail (identifier_of x.1) id
    (form_of x.1.length) form g.header h s in
    (sym u.1, sym u.2, sym u.3)

-- octets that more of them make begin with a header
pub header_beginning_refused : (rule : Rule) (refuses : Violation → Error) (input more front rest : List ℕ)
    (id : Identifier) (form : LengthForm) (r : Refusal Error) → HeaderGives rule (refusal_of refuses) input (Err r) →
    IsHeader rule front id form → input ++ more ≡ front ++ rest → TellsBeginning (IsTruncatedIdentifier input) r more
header_beginning_refused rule at input more front rest id form r g h e = tells_beginning at g.0 r
    (IsTruncatedIdentifier input) more g.2 (header_beginning rule input more front rest id form g.0 g.1 h e)

-- Octets that end within identifier octets are refused with `InvalidTag`.
pub header_within_refused : (rule : Rule) (refuses : Violation → Error) (input : List ℕ)
    (answer : Result (List ℕ × Header) (Refusal Error)) → IsTruncatedIdentifier input →
    HeaderGives rule (refusal_of refuses) input answer → answer ≡ Err (refused InvalidTag)
header_within_refused rule at input (Ok x) c g = absurd (header_or_fault rule input g.octets x.0 (identifier_of x.1)
    (form_of x.1.length) tag_fault (truncated_header_fault rule input c) g.header g.is)
header_within_refused rule at input (Err r) c g =
    ap Err (g.2 ∙ ap (refusal_of at) (one_header_fault rule input g.0 tag_fault g.1 (truncated_header_fault rule input c)))
