-- Elements that are read.
use Rattle.std.proofs.Common.{◌≡◌, ◌∙◌, ℕ, ◌+◌, ◌-◌, ◌≤◌, suc, List, ◌++◌, length, refl, subst, sym, ap, append_assoc}
use Rattle.std.proofs.Common.{arith, inr, true, false}
use Rattle.std.specs.Prelude.{Result, Ok, Err, IfErr, OnErr}
use Rattle.std.specs.Borrow.{Bor}
use Rattle.x690.specs.Octets.{IsOctets}
use Rattle.x690.specs.Identifiers.{Identifier}
use Rattle.x690.specs.Lengths.{definite, LengthForm}
use Rattle.x690.specs.Rules.{Rule, der_rule, ber_rule}
use Rattle.x690.specs.Elements.{IsHeader, Parts, IsDerElement}
use Rattle.x690.specs.Faults.{missing, IsTruncatedContent, DerElementFault}
use Rattle.x690.specs.Nested.{IsNestedElement}
use Rattle.x690.specs.Nested.Contents.{IsContent, ContentFault}
use Rattle.x690.specs.Nested.FaultHeaders.{ContentFaultHeaders}
use Rattle.x690.specs.Laws.Elements.{same_parts}
use Rattle.x690.specs.Laws.Nested.Contents.{element_made}
use Rattle.x690.specs.Laws.Octets.{octets_front, octets_back}
use Rattle.asn1_headers.specs.declared.header.Header.{Header}
use Rattle.asn1_headers.specs.declared.length.Length.{Length}
use Rattle.asn1_headers.specs.declared.length.Length.TheVariants.{Definite, Indefinite}
use Rattle.asn1_headers.specs.declared.error.Err.{Err as Refusal}
use Rattle.asn1_headers.specs.declared.error.Error.{Error}
use Rattle.asn1_headers.specs.Content.{Splits}
use Rattle.asn1_headers.specs.Answers.{HasPrefix}
use Rattle.asn1_headers.specs.Ber.{Counted}
use Rattle.asn1_headers.specs.Header.{identifier_of}
use Rattle.asn1_headers.specs.Header.Reading.{BeginsInput, KeepsIdentifier, Refused, ber_refusal, der_refusal}
use Rattle.asn1_headers.specs.Length.{form_of}
use Rattle.asn1_headers.specs.Der.{DerContentGives}

-- the header counts octets of which some are missing
pub content_truncated : (input rest : List ℕ) (h : Header) (n lacking : ℕ) → BeginsInput der_rule input rest h →
    h.length ≡ Definite n → 1 ≤ lacking → length rest + lacking ≡ n → IsTruncatedContent der_rule input (missing lacking)
content_truncated input rest h n lacking b f some sum = record {
  header = b.octets;
  rest = rest;
  id = identifier_of h;
  counted = n;
  lacking = lacking;
  header_is = subst (λ (l : Length). IsHeader der_rule b.octets (identifier_of h) (form_of l)) f b.header;
  is = b.is;
  some = some;
  sum = sum;
  fault_is = refl;
}

-- the header counts octets that are there
pub definite_read : (input after content rest : List ℕ) (h : Header) (n : ℕ) → IsOctets input →
    BeginsInput der_rule input after h → h.length ≡ Definite n → length content ≡ n → after ≡ content ++ rest →
    (p : Parts) → p.id ≡ identifier_of h → p.form ≡ form_of h.length → p.content ≡ content →
    HasPrefix IsDerElement input p rest
definite_read input after content rest h n octets b f l e p pi pf pc = record {
  word = b.octets ++ content;
  fits = record {
    header = b.octets;
    header_is = subst (λ (g : LengthForm). IsHeader der_rule b.octets p.id g) (sym pf)
        (subst (λ (i : Identifier). IsHeader der_rule b.octets i (form_of h.length)) (sym pi) b.header);
    counted = pf ∙ ap form_of f ∙ ap definite (sym l ∙ ap length (sym pc));
    content_octets = subst IsOctets (sym pc)
        (octets_front content rest (subst IsOctets e (octets_back b.octets after (subst IsOctets b.is octets))));
    is = ap (λ (z : List ℕ). b.octets ++ z) (sym pc);
  };
  is = b.is ∙ ap (λ (z : List ℕ). b.octets ++ z) e ∙ sym (append_assoc b.octets content rest);
}

-- contents octets by DER that are there
pub der_content_read : (input after : List ℕ) (x : Bor (List ℕ) × Bor (List ℕ)) (h : Header) (l : Length) →
    IsOctets input → BeginsInput der_rule input after h → h.length ≡ l → DerContentGives (form_of l) after (Ok x) →
    (p : Parts) → p.id ≡ identifier_of h → p.form ≡ form_of h.length → p.content ≡ x.1.now →
    HasPrefix IsDerElement input p x.0.now
der_content_read input after x h (Definite n) octets b f s p pi pf pc =
    definite_read input after x.1.now x.0.now h n octets b f s.0 s.1 p pi pf pc
der_content_read input after x h Indefinite octets b f s p pi pf pc = absurd (cc)

-- and a refusal of them, which is of octets that are missing: no header by DER has the indefinite form
pub der_content_refused : (input after : List ℕ) (h : Header) (l : Length) (r : Refusal Error) →
    BeginsInput der_rule input after h → h.length ≡ l → DerContentGives (form_of l) after (Err r) →
    Refused DerElementFault der_refusal input r
der_content_refused input after h (Definite n) r b f s =
    (missing s.0, inr (content_truncated input after h n s.0 b f s.1 s.2), s.3)
der_content_refused input after h Indefinite r b f s =
    let a = subst (λ (z : Length). IsHeader der_rule b.octets (identifier_of h) (form_of z)) f b.header in
    let none : false ≡ true = a.count_allowed in
    absurd (cc)

-- octets that are missing are a fault of the contents octets
pub splits_refused : (n depth : ℕ) (input : List ℕ) (answer : Result (Bor (List ℕ) × Bor (List ℕ)) (Refusal Error)) →
    Splits n input answer → IfErr answer (Refused (ContentFault (definite n) depth) ber_refusal input)
splits_refused n depth input (Ok x) s = tt
splits_refused n depth input (Err r) s = (missing s.0, (s.0, s.1, s.2, refl), s.3)

-- and no header is read before it
pub splits_unread : (n depth count : ℕ) (input : List ℕ)
    (answer : Result (Bor (List ℕ) × Bor (List ℕ)) (Refusal Error)) → Splits n input answer →
    OnErr answer (Counted (ContentFaultHeaders (definite n) depth) input count count)
splits_unread n depth count input (Ok x) s = tt
splits_unread n depth count input (Err r) s = (0, (omega (arith, s.1, s.2), refl), omega arith)

-- a header and its contents octets by BER
pub nested_read : (depth : ℕ) (input after content rest : List ℕ) (h : Header) (headers : ℕ) (p : Parts) → 1 ≤ depth →
    IsOctets input → BeginsInput ber_rule input after h →
    IsContent (form_of h.length) (depth - 1) after content rest headers → p.id ≡ identifier_of h →
    p.form ≡ form_of h.length → p.content ≡ content →
    (word : List ℕ) × IsNestedElement depth word p (suc headers) × (input ≡ word ++ rest)
nested_read depth input after content rest h headers p deep octets b c pi pf pc =
    let m = element_made depth input b.octets after content rest (identifier_of h) (form_of h.length) headers deep
    (octets_back b.octets after (subst IsOctets b.is octets)) b.header b.is c in (
      m.0,
      subst (λ (q : Parts). IsNestedElement depth m.0 q (suc headers))
          (sym (same_parts p.id (identifier_of h) p.form (form_of h.length) p.content content pi pf pc)) m.1,
      m.2,
    )

-- a header that was read keeps its identifier octets
pub identifier_kept : (rule : Rule) (input rest : List ℕ) (h k : Header) → BeginsInput rule input rest h → k ≡ h →
    KeepsIdentifier input k
identifier_kept rule input rest h k b e = subst (KeepsIdentifier input) (sym e) (
  b.header.identifier,
  b.header.count ++ rest,
  b.header.identifier_is,
  b.is ∙ ap (λ (ys : List ℕ). ys ++ rest) b.header.is ∙ append_assoc b.header.identifier b.header.count rest,
  b.raw_tag,
)
