-- Octets that no element by BER begins have one count of headers before the first fault,
-- which half of the octets bounds.
use Rattle.std.proofs.Common.{◌≡◌, ℕ, zero, suc, ◌+◌, ◌-◌, ◌*◌, ◌≤◌, List, ◌++◌, length, refl, sym, ap, ◌∙◌, arith}
use Rattle.std.proofs.Common.{subst, inl, inr, length-append}
use Rattle.std.specs.List.{concat}
use Rattle.x690.specs.Identifiers.{Identifier}
use Rattle.x690.specs.Lengths.{LengthForm, definite, indefinite}
use Rattle.x690.specs.Rules.{ber_rule}
use Rattle.x690.specs.Elements.{IsHeader}
use Rattle.x690.specs.Faults.{Fault, missing, depth_fault, HeaderFault}
use Rattle.x690.specs.Nested.{IsWord, ElementFault}
use Rattle.x690.specs.Nested.FaultHeaders.{FaultHeaders, EndFaultHeaders, ContentFaultHeaders}
use Rattle.x690.specs.Laws.Headers.{header_two}
use Rattle.x690.specs.Laws.Faults.{header_or_fault}
use Rattle.x690.specs.Laws.Nested.Rows.{BeginsWithWord, row_half}
use Rattle.x690.specs.Laws.Nested.{nested_element_half}
use Rattle.x690.specs.Laws.Nested.Faults.{header_not_truncated, header_not_opened, truncated_not_opened, opened_compared}
use Rattle.x690.specs.Laws.Nested.Faults.{no_fault_at_word}

-- where the first header has the fault none is read whole
pub no_header_first : (depth : ℕ) (octets : List ℕ) (fault : Fault) → HeaderFault ber_rule octets fault →
    FaultHeaders depth octets 0
unfolding FaultHeaders
no_header_first zero octets fault why = inl ((fault, why), refl)
no_header_first (suc depth) octets fault why = inl ((fault, why), refl)

-- below depth 1 one header is read
pub one_header_too_deep : (depth : ℕ) (octets header rest : List ℕ) (id : Identifier) (form : LengthForm) → depth ≡ 0 →
    IsHeader ber_rule header id form → octets ≡ header ++ rest → FaultHeaders depth octets 1
unfolding FaultHeaders
one_header_too_deep zero octets header rest id form z h s = inr ((header, rest, id, form, h, s), refl)
one_header_too_deep (suc depth) octets header rest id form z h s = absurd (omega arith)

-- an indefinite header is one more than the headers behind it
pub opened_headers : (depth : ℕ) (octets header after : List ℕ) (id : Identifier) (headers : ℕ) →
    IsHeader ber_rule header id indefinite → octets ≡ header ++ after → EndFaultHeaders depth after headers →
    FaultHeaders (suc depth) octets (suc headers)
unfolding FaultHeaders
opened_headers depth octets header after id headers h s b =
    inr (inr (
      b.rest,
      record {
        header = header;
        words = b.words;
        id = id;
        headers = b.inner;
        header_is = h;
        is = s ∙ ap (λ (ys : List ℕ). header ++ ys) b.is;
        row = b.row;
      },
      b.behind,
      b.stops,
      omega (arith, b.counted),
    ))

-- a header is one more than those before a fault of its contents octets
pub content_headers_behind : (depth : ℕ) (octets header after : List ℕ) (id : Identifier) (form : LengthForm)
    (headers : ℕ) → 1 ≤ depth → IsHeader ber_rule header id form → octets ≡ header ++ after →
    ContentFaultHeaders form (depth - 1) after headers → FaultHeaders depth octets (suc headers)
unfolding FaultHeaders
content_headers_behind zero octets header after id form headers some h s b = absurd (omega arith)
content_headers_behind (suc depth) octets header after id (definite n) headers some h s b =
    inr (inl (
      (
        missing (n - length after),
        record {
          header = header;
          rest = after;
          id = id;
          counted = n;
          lacking = n - length after;
          header_is = h;
          is = s;
          some = omega (arith, b.0);
          sum = omega (arith, b.0);
          fault_is = refl;
        },
      ),
      omega (arith, b.1),
    ))
content_headers_behind (suc depth) octets header after id indefinite headers some h s b =
    let e : suc depth - 1 ≡ depth = omega arith in
    opened_headers depth octets header after id headers h s (subst (λ (d : ℕ). EndFaultHeaders d after headers) e b)

-- each fault has a count of headers before it
pub fault_has_headers : (depth : ℕ) (octets : List ℕ) (fault : Fault) → ElementFault depth octets fault →
    (headers : ℕ) × FaultHeaders depth octets headers
unfolding ElementFault FaultHeaders
fault_has_headers zero octets fault (inl why) = (0, inl ((fault, why), refl))
fault_has_headers zero octets fault (inr why) = (1, inr (why.0, refl))
fault_has_headers (suc depth) octets fault (inl why) = (0, inl ((fault, why), refl))
fault_has_headers (suc depth) octets fault (inr (inl why)) = (1, inr (inl ((fault, why), refl)))
fault_has_headers (suc depth) octets fault (inr (inr why)) =
    let b = fault_has_headers depth why.0 fault why.2 in
    (1 + why.1.headers + b.0, inr (inr (why.0, why.1, b.0, b.1, refl)))

-- where there is a count there is a fault
pub headers_have_fault : (depth : ℕ) (octets : List ℕ) (headers : ℕ) → FaultHeaders depth octets headers →
    (fault : Fault) × ElementFault depth octets fault
unfolding ElementFault FaultHeaders
headers_have_fault zero octets headers (inl a) = (a.0.0, inl a.0.1)
headers_have_fault zero octets headers (inr a) = (depth_fault, inr (a.0, refl))
headers_have_fault (suc depth) octets headers (inl a) = (a.0.0, inl a.0.1)
headers_have_fault (suc depth) octets headers (inr (inl a)) = (a.0.0, inr (inl a.0.1))
headers_have_fault (suc depth) octets headers (inr (inr a)) =
    let f = headers_have_fault depth a.0 a.2 a.3 in
    (f.0, inr (inr (a.0, a.1, f.1)))

not_at_word : (depth : ℕ) (octets : List ℕ) (headers : ℕ) → FaultHeaders depth octets headers →
    BeginsWithWord (IsWord depth) octets → ⊥
not_at_word depth octets headers a b =
    let f = headers_have_fault depth octets headers a in
    no_fault_at_word depth octets f.0 f.1 b

-- Octets have one count of headers before the first fault.
pub one_count : (depth : ℕ) (octets : List ℕ) (g h : ℕ) → FaultHeaders depth octets g →
    FaultHeaders depth octets h → g ≡ h
unfolding FaultHeaders
one_count zero octets g h (inl a) (inl b) = a.1 ∙ sym b.1
one_count zero octets g h (inl a) (inr b) =
    absurd (header_or_fault ber_rule octets b.0.0 b.0.1 b.0.2 b.0.3 a.0.0 a.0.1 b.0.4 b.0.5)
one_count zero octets g h (inr a) (inl b) =
    absurd (header_or_fault ber_rule octets a.0.0 a.0.1 a.0.2 a.0.3 b.0.0 b.0.1 a.0.4 a.0.5)
one_count zero octets g h (inr a) (inr b) = a.1 ∙ sym b.1
one_count (suc depth) octets g h (inl a) (inl b) = a.1 ∙ sym b.1
one_count (suc depth) octets g h (inl a) (inr (inl b)) = absurd (header_not_truncated octets a.0.0 b.0.0 a.0.1 b.0.1)
one_count (suc depth) octets g h (inl a) (inr (inr b)) = absurd (header_not_opened depth octets b.0 a.0.0 a.0.1 b.1)
one_count (suc depth) octets g h (inr (inl a)) (inl b) = absurd (header_not_truncated octets b.0.0 a.0.0 b.0.1 a.0.1)
one_count (suc depth) octets g h (inr (inl a)) (inr (inl b)) = a.1 ∙ sym b.1
one_count (suc depth) octets g h (inr (inl a)) (inr (inr b)) = absurd (truncated_not_opened depth octets b.0 a.0.0 a.0.1 b.1)
one_count (suc depth) octets g h (inr (inr a)) (inl b) = absurd (header_not_opened depth octets a.0 b.0.0 b.0.1 a.1)
one_count (suc depth) octets g h (inr (inr a)) (inr (inl b)) = absurd (truncated_not_opened depth octets a.0 b.0.0 b.0.1 a.1)
one_count (suc depth) octets g h (inr (inr a)) (inr (inr b)) =
    elim (opened_compared depth octets a.0 b.0 a.1 b.1) [
      | inl r ↦
          let e = one_count depth a.0 a.2 b.2 a.3 (subst (λ (ys : List ℕ). FaultHeaders depth ys b.2) (sym r.1) b.3) in
          omega (arith, a.4, b.4, r.0, e)
      | inr (inl r) ↦ absurd (not_at_word depth a.0 a.2 a.3 r)
      | inr (inr r) ↦ absurd (not_at_word depth b.0 b.2 b.3 r)
    ]

-- the headers before the first fault number at most half of the octets
pub fault_headers_half : (depth : ℕ) (octets : List ℕ) (headers : ℕ) → FaultHeaders depth octets headers →
    2 * headers ≤ length octets
unfolding FaultHeaders
fault_headers_half zero octets headers (inl a) = omega (arith, a.1)
fault_headers_half zero octets headers (inr a) =
    let b = a.0 in
    omega (arith, a.1, header_two ber_rule b.0 b.2 b.3 b.4, ap length b.5, length-append b.0 b.1)
fault_headers_half (suc depth) octets headers (inl a) = omega (arith, a.1)
fault_headers_half (suc depth) octets headers (inr (inl a)) =
    let b = a.0.1 in
    omega (
      arith,
      a.1,
      header_two ber_rule b.header b.id (definite b.counted) b.header_is,
      ap length b.is,
      length-append b.header b.rest,
    )
fault_headers_half (suc depth) octets headers (inr (inr a)) =
    let b = a.1 in
    let whole = row_half (IsWord depth) (λ w g k. nested_element_half depth w k.0 g k.1) b.words b.headers b.row in
    let behind = fault_headers_half depth a.0 a.2 a.3 in
    omega (
      arith,
      a.4,
      header_two ber_rule b.header b.id indefinite b.header_is,
      ap length b.is,
      length-append b.header (concat b.words ++ a.0),
      length-append (concat b.words) a.0,
      whole,
      behind,
    )
