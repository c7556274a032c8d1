-- The contents octets of elements that were opened, one within another.
use Rattle.std.proofs.Common.{◌≡◌, ◌≢◌, ℕ, zero, suc, ◌+◌, ◌-◌, ◌≤◌, ◌⊎◌, List, [], ◌∷◌, ◌++◌, length, refl, sym, ap}
use Rattle.std.proofs.Common.{◌∙◌, arith, subst, inl, inr, append_assoc, Result, Ok, Err}
use Rattle.std.specs.List.{concat}
use Rattle.x690.specs.Octets.{IsOctets}
use Rattle.x690.specs.Identifiers.{Identifier}
use Rattle.x690.specs.Lengths.{definite, indefinite}
use Rattle.x690.specs.Rules.{ber_rule}
use Rattle.x690.specs.Elements.{IsHeader}
use Rattle.x690.specs.Faults.{Fault}
use Rattle.x690.specs.Nested.{IsWord, ElementFault, end_of_contents}
use Rattle.x690.specs.Nested.Contents.{IsEndedContent, EndFault}
use Rattle.x690.specs.Nested.FaultHeaders.{FaultHeaders, EndFaultHeaders}
use Rattle.x690.specs.Laws.Nested.{indefinite_not_end, definite_is_nested}
use Rattle.x690.specs.Laws.Nested.Contents.{definite_made, ended_made, end_fault_opened}
use Rattle.x690.specs.Laws.Nested.FaultHeaders.{opened_headers}

-- What comes of the octets within so many open contents, where the innermost has elements of the depth, and how many
-- headers are read whole on the way: the first fault behind whole elements, or 00 00 behind them and then what comes of
-- the rest within one content less.
unfoldable pub OpenContents : ℕ → ℕ → List ℕ → Result (List ℕ) Fault → ℕ → Type 0
OpenContents zero depth octets outcome headers = (outcome ≡ Ok octets) × (headers ≡ 0)
OpenContents (suc opened) depth octets outcome headers =
    ((fault : Fault) × EndFault depth octets fault × (outcome ≡ Err fault) × EndFaultHeaders depth octets headers) ⊎
    ((content : List ℕ) × (rest : List ℕ) × (inner : ℕ) × (outer : ℕ) × IsEndedContent depth octets content rest inner ×
    OpenContents opened (suc depth) rest outcome outer × (headers ≡ inner + suc outer))

-- no content is open
pub all_closed : (opened depth : ℕ) (octets : List ℕ) → opened ≡ 0 → OpenContents opened depth octets (Ok octets) 0
unfolding OpenContents
all_closed zero depth octets e = (refl, refl)
all_closed (suc opened) depth octets e = absurd (omega arith)

-- the next element has a fault
pub next_has_fault : (opened depth : ℕ) (octets : List ℕ) (fault : Fault) (headers : ℕ) → 1 ≤ opened →
    ElementFault depth octets fault → FaultHeaders depth octets headers →
    OpenContents opened depth octets (Err fault) headers
unfolding OpenContents
next_has_fault zero depth octets fault headers some why stops = absurd (omega arith)
next_has_fault (suc opened) depth octets fault headers some why stops =
    inl (
      fault,
      record { words = []; rest = octets; headers = 0; row = refl; is = refl; why = why },
      refl,
      record {
        words = [];
        rest = octets;
        inner = 0;
        behind = headers;
        row = refl;
        is = refl;
        stops = stops;
        counted = omega arith;
      },
    )

-- 00 00 is next
pub next_is_end : (opened depth : ℕ) (octets rest : List ℕ) (outcome : Result (List ℕ) Fault) (headers : ℕ) →
    1 ≤ opened → 1 ≤ depth → octets ≡ end_of_contents ++ rest →
    OpenContents (opened - 1) (depth + 1) rest outcome headers → OpenContents opened depth octets outcome (suc headers)
unfolding OpenContents
next_is_end zero depth octets rest outcome headers some deep e r = absurd (omega arith)
next_is_end (suc opened) depth octets rest outcome headers some deep e r =
    let a : suc opened - 1 ≡ opened = omega arith in
    let b : depth + 1 ≡ suc depth = omega arith in
    let closed : OpenContents opened (suc depth) rest outcome headers =
    subst (λ (n : ℕ). OpenContents n (suc depth) rest outcome headers) a
    (subst (λ (n : ℕ). OpenContents (suc opened - 1) n rest outcome headers) b r) in
    inr (
      [],
      rest,
      0,
      headers,
      record { some = deep; words = []; row = refl; content_is = refl; is = e },
      closed,
      omega arith,
    )

next_has_fault_of : (opened depth : ℕ) (octets : List ℕ) (outcome : Result (List ℕ) Fault) (fault : Fault)
    (headers : ℕ) → 1 ≤ opened → outcome ≡ Err fault → ElementFault depth octets fault →
    FaultHeaders depth octets headers → OpenContents opened depth octets outcome headers
next_has_fault_of opened depth octets outcome fault headers some e why stops =
    subst (λ (o : Result (List ℕ) Fault). OpenContents opened depth octets o headers) (sym e)
    (next_has_fault opened depth octets fault headers some why stops)

word_then_fault : (depth : ℕ) (octets word after : List ℕ) (count : ℕ) (fault : Fault) → IsWord depth word count →
    word ≢ end_of_contents → octets ≡ word ++ after → EndFault depth after fault → EndFault depth octets fault
word_then_fault depth octets word after count fault w ne e why = record {
  words = word ∷ why.words;
  rest = why.rest;
  headers = count + why.headers;
  row = (count, why.headers, w, ne, why.row, refl);
  is = e ∙ ap (λ (ys : List ℕ). word ++ ys) why.is ∙ sym (append_assoc word (concat why.words) why.rest);
  why = why.why;
}

word_then_headers : (depth : ℕ) (octets word after : List ℕ) (count headers : ℕ) → IsWord depth word count →
    word ≢ end_of_contents → octets ≡ word ++ after → EndFaultHeaders depth after headers →
    EndFaultHeaders depth octets (count + headers)
word_then_headers depth octets word after count headers w ne e b = record {
  words = word ∷ b.words;
  rest = b.rest;
  inner = count + b.inner;
  behind = b.behind;
  row = (count, b.inner, w, ne, b.row, refl);
  is = e ∙ ap (λ (ys : List ℕ). word ++ ys) b.is ∙ sym (append_assoc word (concat b.words) b.rest);
  stops = b.stops;
  counted = omega (arith, b.counted);
}

word_then_ended : (depth : ℕ) (octets word after content rest : List ℕ) (count inner : ℕ) → IsWord depth word count →
    word ≢ end_of_contents → octets ≡ word ++ after → IsEndedContent depth after content rest inner →
    IsEndedContent depth octets (word ++ content) rest (count + inner)
word_then_ended depth octets word after content rest count inner w ne e c = record {
  some = c.some;
  words = word ∷ c.words;
  row = (count, inner, w, ne, c.row, refl);
  content_is = ap (λ (ys : List ℕ). word ++ ys) c.content_is;
  is = e ∙ ap (λ (ys : List ℕ). word ++ ys) c.is ∙ sym (append_assoc word content (end_of_contents ++ rest));
}

-- a whole element is next
pub next_is_word : (opened depth : ℕ) (octets word after : List ℕ) (outcome : Result (List ℕ) Fault)
    (count headers : ℕ) → 1 ≤ opened → IsWord depth word count → word ≢ end_of_contents → octets ≡ word ++ after →
    OpenContents opened depth after outcome headers → OpenContents opened depth octets outcome (count + headers)
unfolding OpenContents
next_is_word zero depth octets word after outcome count headers some w ne e r = absurd (omega arith)
next_is_word (suc opened) depth octets word after outcome count headers some w ne e r = elim r [
  | inl s ↦ inl (
    s.0,
    word_then_fault depth octets word after count s.0 w ne e s.1,
    s.2,
    word_then_headers depth octets word after count headers w ne e s.3,
  )
  | inr s ↦ inr (
    word ++ s.0,
    s.1,
    count + s.2,
    s.3,
    word_then_ended depth octets word after s.0 s.1 count s.2 w ne e s.4,
    s.5,
    omega (arith, s.6),
  )
]

-- a header that counts its contents octets is next, with as many octets
pub next_is_definite : (opened depth : ℕ) (octets header after content rest : List ℕ) (id : Identifier) (n : ℕ)
    (outcome : Result (List ℕ) Fault) (headers : ℕ) → 1 ≤ opened → 1 ≤ depth → IsOctets after →
    IsHeader ber_rule header id (definite n) → octets ≡ header ++ after → after ≡ content ++ rest → length content ≡ n →
    ((tail : List ℕ) → octets ≡ end_of_contents ++ tail → ⊥) → OpenContents opened depth rest outcome headers →
    OpenContents opened depth octets outcome (suc headers)
next_is_definite opened depth octets header after content rest id n outcome headers some deep whole h s t l not_end r =
    let m = definite_made octets header after content rest id n whole h s t l in
    let n : 1 + headers ≡ suc headers = omega arith in
    subst (λ (m : ℕ). OpenContents opened depth octets outcome m) n
    (next_is_word opened depth octets (header ++ content) rest outcome 1 headers some (
      _,
      definite_is_nested ber_rule depth (header ++ content) _ deep m.0,
    ) (λ e. not_end rest (m.1 ∙ ap (λ (ys : List ℕ). ys ++ rest) e)) m.1 r)

opens : (opened depth : ℕ) (octets header after : List ℕ) (id : Identifier) (outcome : Result (List ℕ) Fault)
    (headers : ℕ) → IsHeader ber_rule header id indefinite → octets ≡ header ++ after →
    OpenContents (suc (suc opened)) depth after outcome headers →
    OpenContents (suc opened) (suc depth) octets outcome (suc headers)
unfolding OpenContents
opens opened depth octets header after id outcome headers h s r = elim r [
  | inl f ↦ next_has_fault_of (suc opened) (suc depth) octets outcome f.0 (suc headers) (omega arith) f.2
      (end_fault_opened depth octets header after id f.0 h s f.1)
      (opened_headers depth octets header after id headers h s f.3)
  | inr f ↦
      let m = ended_made depth octets header after f.0 f.1 id f.2 h s f.4 in
      let n : (f.2 + 2) + f.3 ≡ suc headers = omega (arith, f.6) in
      subst (λ (m : ℕ). OpenContents (suc opened) (suc depth) octets outcome m) n
      (next_is_word (suc opened) (suc depth) octets (header ++ (f.0 ++ end_of_contents)) f.1 outcome (f.2 + 2) f.3
      (omega arith) (_, m.0) (indefinite_not_end header (f.0 ++ end_of_contents) id h) m.1 f.5)
]

-- an indefinite header is next
pub next_is_opened : (opened depth : ℕ) (octets header after : List ℕ) (id : Identifier)
    (outcome : Result (List ℕ) Fault) (headers : ℕ) → 1 ≤ opened → 1 ≤ depth → IsHeader ber_rule header id indefinite →
    octets ≡ header ++ after → OpenContents (opened + 1) (depth - 1) after outcome headers →
    OpenContents opened depth octets outcome (suc headers)
next_is_opened zero depth octets header after id outcome headers some deep h s r = absurd (omega arith)
next_is_opened (suc opened) zero octets header after id outcome headers some deep h s r = absurd (omega arith)
next_is_opened (suc opened) (suc depth) octets header after id outcome headers some deep h s r =
    let a : suc opened + 1 ≡ suc (suc opened) = omega arith in
    let b : suc depth - 1 ≡ depth = omega arith in
    opens opened depth octets header after id outcome headers h s
    (subst (λ (n : ℕ). OpenContents n depth after outcome headers) a
    (subst (λ (n : ℕ). OpenContents (suc opened + 1) n after outcome headers) b r))

-- one content alone is open, and ends
pub one_ends : (depth : ℕ) (octets tail : List ℕ) (headers : ℕ) → OpenContents 1 depth octets (Ok tail) headers →
    (content : List ℕ) × (inner : ℕ) × IsEndedContent depth octets content tail inner × (headers ≡ inner + 1)
unfolding OpenContents
one_ends depth octets tail headers r = elim r [
  | inl s ↦ cc
  | inr s ↦
      let e : s.1 ≡ tail = cc in
      (s.0, s.2, subst (λ (ys : List ℕ). IsEndedContent depth octets s.0 ys s.2) e s.4, omega (arith, s.6, s.5.1))
]

-- and it has a fault, with so many headers before it
pub one_fails : (depth : ℕ) (octets : List ℕ) (fault : Fault) (headers : ℕ) →
    OpenContents 1 depth octets (Err fault) headers → EndFault depth octets fault × EndFaultHeaders depth octets headers
unfolding OpenContents
one_fails depth octets fault headers r = elim r [
  | inl s ↦ let e : s.0 ≡ fault = cc in (subst (λ f. EndFault depth octets f) e s.1, s.3)
  | inr s ↦ let e : Err fault ≡ Ok s.1 = s.5.0 in cc
]

-- where the fault of the next element is that of the whole,
-- and the headers before it are those that were read and so many more
pub next_fails : (opened depth whole_depth : ℕ) (octets whole : List ℕ) (fault : Fault) (before headers : ℕ) →
    1 ≤ opened → ElementFault depth octets fault → FaultHeaders depth octets headers →
    ((outcome : Result (List ℕ) Fault) (headers : ℕ) → OpenContents opened depth octets outcome headers →
    OpenContents 1 whole_depth whole outcome (before + headers)) →
    EndFault whole_depth whole fault × EndFaultHeaders whole_depth whole (before + headers)
next_fails opened depth whole_depth octets whole fault before headers some why stops goes_on =
    one_fails whole_depth whole fault (before + headers)
    (goes_on (Err fault) headers (next_has_fault opened depth octets fault headers some why stops))

-- the headers after one more of them
pub one_header_more : (depth : ℕ) (octets : List ℕ) (outcome : Result (List ℕ) Fault) (start now headers : ℕ) →
    start ≤ now → OpenContents 1 depth octets outcome ((now - start) + suc headers) →
    OpenContents 1 depth octets outcome ((now + 1 - start) + headers)
one_header_more depth octets outcome start now headers grows r =
    let e : (now - start) + suc headers ≡ (now + 1 - start) + headers = omega arith in
    subst (λ (n : ℕ). OpenContents 1 depth octets outcome n) e r
