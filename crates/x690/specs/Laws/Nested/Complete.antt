-- Octets that no element by BER, or no contents octets, begin have a fault.
use Rattle.std.proofs.Common.{◌≡◌, ◌≢◌, ℕ, zero, suc, ◌+◌, ◌-◌, ◌≤◌, List, [], ◌∷◌, ◌++◌, length, take, drop, refl, sym}
use Rattle.std.proofs.Common.{ap, ◌∙◌, arith, subst, inl, inr, ◌⊎◌, append_assoc, take-append-drop, length-append}
use Rattle.std.specs.List.{concat}
use Rattle.std.proofs.lemmas.Bool.{cases_lt}
use Rattle.std.proofs.lemmas.List.{length-take-le}
use Rattle.x690.specs.Octets.{IsOctets}
use Rattle.x690.specs.Lengths.{LengthForm, definite, indefinite}
use Rattle.x690.specs.Rules.{ber_rule}
use Rattle.x690.specs.Elements.{Parts, BeginsWithElement}
use Rattle.x690.specs.Faults.{missing, depth_fault, HasFault}
use Rattle.x690.specs.Nested.{IsNestedElement, IsElement, ElementFault, end_of_contents}
use Rattle.x690.specs.Nested.Contents.{IsEndedContent, EndFault, IsContent, BeginsWithContent, ContentFault}
use Rattle.x690.specs.Laws.Octets.{octets_back}
use Rattle.x690.specs.Laws.Nested.{nested_element_two}
use Rattle.x690.specs.Laws.Nested.Contents.{element_made, header_fault_first, too_deep, content_fault_behind}
use Rattle.x690.specs.Nested.FaultHeaders.{FaultHeaders}
use Rattle.x690.specs.Laws.Nested.FaultHeaders.{fault_has_headers}
use Rattle.x690.specs.Laws.Faults.Complete.{header_or_has_fault}

-- an element begins each string of octets that has no fault
abbrev IsComplete : ℕ → Type 0
IsComplete depth = (octets : List ℕ) → IsOctets octets →
    BeginsWithElement (IsElement depth) octets ⊎ HasFault (ElementFault depth) octets

abbrev BeginsWithEnded : ℕ → List ℕ → Type 0
BeginsWithEnded depth octets =
    (content : List ℕ) × (rest : List ℕ) × (headers : ℕ) × IsEndedContent depth octets content rest headers

is_end : (word : List ℕ) → (word ≡ end_of_contents) ⊎ (word ≢ end_of_contents)
is_end [] = inr (λ e. cc)
is_end (a ∷ []) = inr (λ e. cc)
is_end (zero ∷ zero ∷ []) = inl refl
is_end (zero ∷ zero ∷ c ∷ word) = inr (λ e. cc)
is_end (zero ∷ suc b ∷ word) = inr (λ e. cc)
is_end (suc a ∷ b ∷ word) = inr (λ e. cc)

depth_some : (depth : ℕ) (o : List ℕ) (p : Parts) (h : ℕ) → IsNestedElement depth o p h → 1 ≤ depth
unfolding IsNestedElement
depth_some zero o p h a = absurd a
depth_some (suc depth) o p h a = omega arith

-- one word more in front of what is ended, or of the fault
ended_more : (depth : ℕ) (octets word after : List ℕ) (p : Parts) (h : ℕ) → IsNestedElement depth word p h →
    word ≢ end_of_contents → octets ≡ word ++ after → BeginsWithEnded depth after → BeginsWithEnded depth octets
ended_more depth octets word after p h a n s (content, rest, headers, c) = (
  word ++ content,
  rest,
  h + headers,
  record {
    some = c.some;
    words = word ∷ c.words;
    row = (h, headers, (p, a), n, c.row, refl);
    content_is = ap (λ (ys : List ℕ). word ++ ys) c.content_is;
    is = s ∙ ap (λ (ys : List ℕ). word ++ ys) c.is ∙ sym (append_assoc word content (end_of_contents ++ rest));
  },
)

end_fault_more : (depth : ℕ) (octets word after : List ℕ) (p : Parts) (h : ℕ) → IsNestedElement depth word p h →
    word ≢ end_of_contents → octets ≡ word ++ after → HasFault (EndFault depth) after → HasFault (EndFault depth) octets
end_fault_more depth octets word after p h a n s (fault, f) = (
  fault,
  record {
    words = word ∷ f.words;
    rest = f.rest;
    headers = h + f.headers;
    row = (h, f.headers, (p, a), n, f.row, refl);
    is = s ∙ ap (λ (ys : List ℕ). word ++ ys) f.is ∙ sym (append_assoc word (concat f.words) f.rest);
    why = f.why;
  },
)

-- where each string of octets has an element or a fault, whole elements and 00 00 begin it,
-- or whole elements and a fault
ended_or_fault : (depth : ℕ) → IsComplete depth → (most : ℕ) (octets : List ℕ) → IsOctets octets →
    length octets ≤ most → BeginsWithEnded depth octets ⊎ HasFault (EndFault depth) octets
ended_or_fault depth complete zero octets o l = elim (complete octets o) [
  | inr f ↦ inr (f.0, record { words = []; rest = octets; headers = 0; row = refl; is = refl; why = f.1 })
  | inl (word, after, p, (h, a), s) ↦
      absurd (omega (arith, nested_element_two depth word p h a, ap length s, length-append word after))
]
ended_or_fault depth complete (suc most) octets o l = elim (complete octets o) [
  | inr f ↦ inr (f.0, record { words = []; rest = octets; headers = 0; row = refl; is = refl; why = f.1 })
  | inl (word, after, p, (h, a), s) ↦ elim (is_end word) [
    | inl e ↦ inl (
      [],
      after,
      0,
      record {
        some = depth_some depth word p h a;
        words = [];
        row = refl;
        content_is = refl;
        is = s ∙ ap (λ (ys : List ℕ). ys ++ after) e;
      },
    )
    | inr n ↦
        let short : length after ≤ most =
        omega (arith, nested_element_two depth word p h a, ap length s, length-append word after) in
        elim (ended_or_fault depth complete most after (octets_back word after (subst IsOctets s o)) short) [
          | inl c ↦ inl (ended_more depth octets word after p h a n s c)
          | inr f ↦ inr (end_fault_more depth octets word after p h a n s f)
        ]
  ]
]

content_behind : (depth : ℕ) → IsComplete depth → (form : LengthForm) (octets : List ℕ) → IsOctets octets →
    BeginsWithContent form depth octets ⊎ HasFault (ContentFault form depth) octets
content_behind depth complete (definite n) octets o = elim (cases_lt (length octets) n) [
  | inl short ↦ inr (missing (n - length octets), (n - length octets, omega arith, omega arith, refl))
  | inr there ↦
      inl (take n octets, drop n octets, 0, (length-take-le n octets there, sym (take-append-drop n octets), refl))
]
content_behind depth complete indefinite octets o =
    elim (ended_or_fault depth complete (length octets) octets o (omega arith)) [
      | inl (content, rest, headers, c) ↦ inl (content, rest, headers + 1, (headers, c, refl))
      | inr f ↦ inr f
    ]

-- An element of the depth begins octets, or they have a fault.
pub element_or_has_fault : (depth : ℕ) → IsComplete depth
element_or_has_fault zero octets o = elim (header_or_has_fault ber_rule octets o) [
  | inl (header, rest, id, form, h, s) ↦ inr (depth_fault, too_deep 0 octets header rest id form refl h s)
  | inr f ↦ inr (f.0, header_fault_first 0 octets f.0 f.1)
]
element_or_has_fault (suc depth) octets o = elim (header_or_has_fault ber_rule octets o) [
  | inr f ↦ inr (f.0, header_fault_first (suc depth) octets f.0 f.1)
  | inl (header, after, id, form, h, s) ↦
      let behind : IsOctets after = octets_back header after (subst IsOctets s o) in
      let e : depth ≡ suc depth - 1 = omega arith in
      elim (content_behind depth (element_or_has_fault depth) form after behind) [
        | inl (content, rest, headers, c) ↦
            let m = element_made (suc depth) octets header after content rest id form headers (omega arith) behind h s
            (subst (λ (d : ℕ). IsContent form d after content rest headers) e c) in
            inl (m.0, rest, record { id = id; form = form; content = content }, (suc headers, m.1), m.2)
        | inr f ↦ inr (
          f.0,
          content_fault_behind (suc depth) octets header after id form f.0 (omega arith) h s
              (subst (λ (d : ℕ). ContentFault form d after f.0) e f.1),
        )
      ]
]

-- or a count of headers before it
pub element_or_fault_headers : (depth : ℕ) (octets : List ℕ) → IsOctets octets →
    BeginsWithElement (IsElement depth) octets ⊎ ((headers : ℕ) × FaultHeaders depth octets headers)
element_or_fault_headers depth octets o = elim (element_or_has_fault depth octets o) [
  | inl w ↦ inl w
  | inr f ↦ inr (fault_has_headers depth octets f.0 f.1)
]

-- Contents octets of a form begin octets, or they have a fault.
pub content_or_has_fault : (form : LengthForm) (depth : ℕ) (octets : List ℕ) → IsOctets octets →
    BeginsWithContent form depth octets ⊎ HasFault (ContentFault form depth) octets
content_or_has_fault form depth octets o = content_behind depth (element_or_has_fault depth) form octets o
