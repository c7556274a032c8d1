-- Contents octets by BER: with a header they make an element, and octets begin with one of them or have one fault.
use Rattle.std.proofs.Common.{true, [], ◌∷◌, length-append, ◌≡◌, ℕ, zero, suc, ◌+◌, ◌-◌, ◌≤◌, List, ◌++◌, length, refl}
use Rattle.std.proofs.Common.{sym, ap, ◌∙◌, arith, subst, inl, inr, append_assoc}
use Rattle.std.specs.List.{concat}
use Rattle.std.proofs.lemmas.List.{append_cancel_left}
use Rattle.x690.specs.Octets.{IsOctets}
use Rattle.x690.specs.Identifiers.{Identifier}
use Rattle.x690.specs.Lengths.{LengthForm, definite, indefinite}
use Rattle.x690.specs.Rules.{ber_rule}
use Rattle.x690.specs.Elements.{IsHeader, IsDefiniteElement}
use Rattle.x690.specs.Faults.{Fault, missing, depth_fault, HeaderFault}
use Rattle.x690.specs.Nested.{IsNestedElement, ElementFault, end_of_contents}
use Rattle.x690.specs.Nested.Contents.{IsEndedContent, EndFault, IsContent, ContentFault}
use Rattle.x690.specs.Laws.Octets.{octets_front}
use Rattle.x690.specs.Laws.Lengths.{same_front}
use Rattle.x690.specs.Laws.Nested.{words_unique}
use Rattle.x690.specs.Laws.Nested.Faults.{one_element_fault, element_or_fault}

-- a header that counts them, and as many octets
pub definite_made : (octets header after content rest : List ℕ) (id : Identifier) (n : ℕ) → IsOctets after →
    IsHeader ber_rule header id (definite n) → octets ≡ header ++ after → after ≡ content ++ rest → length content ≡ n →
    IsDefiniteElement ber_rule (header ++ content) (record { id = id; form = definite n; content = content }) ×
    (octets ≡ (header ++ content) ++ rest)
definite_made octets header after content rest id n whole h s t l = (
  record {
    header = header;
    header_is = h;
    counted = ap definite (sym l);
    content_octets = octets_front content rest (subst IsOctets t whole);
    is = refl;
  },
  s ∙ ap (λ (ys : List ℕ). header ++ ys) t ∙ sym (append_assoc header content rest),
)

-- a header of the indefinite form, and contents octets that are ended
pub ended_made : (depth : ℕ) (octets header after content rest : List ℕ) (id : Identifier) (headers : ℕ) →
    IsHeader ber_rule header id indefinite → octets ≡ header ++ after →
    IsEndedContent depth after content rest headers → IsNestedElement (suc depth)
    (header ++ (content ++ end_of_contents)) (record { id = id; form = indefinite; content = content }) (headers + 2) ×
    (octets ≡ (header ++ (content ++ end_of_contents)) ++ rest)
unfolding IsNestedElement
ended_made depth octets header after content rest id headers h s c = (
  inr (
    c.some,
    record {
      header = header;
      header_is = h;
      form = refl;
      words = c.words;
      inner = headers;
      row = c.row;
      content = c.content_is;
      counted = refl;
      is = refl;
    },
  ),
  s ∙ ap (λ (ys : List ℕ). header ++ ys) (c.is ∙ sym (append_assoc content end_of_contents rest))
      ∙ sym (append_assoc header (content ++ end_of_contents) rest),
)

-- A header and its contents octets are an element, one header more.
pub element_made : (depth : ℕ) (octets header after content rest : List ℕ) (id : Identifier) (form : LengthForm)
    (headers : ℕ) → 1 ≤ depth → IsOctets after → IsHeader ber_rule header id form → octets ≡ header ++ after →
    IsContent form (depth - 1) after content rest headers →
    (word : List ℕ) × IsNestedElement depth word (record { id = id; form = form; content = content }) (suc headers) ×
    (octets ≡ word ++ rest)
unfolding IsNestedElement
element_made zero octets header after content rest id form headers some whole h s c = absurd (omega arith)
element_made (suc depth) octets header after content rest id (definite n) headers some whole h s c =
    let m = definite_made octets header after content rest id n whole h s c.1 c.0 in
    (header ++ content, inl (m.0, omega (arith, c.2)), m.1)
element_made (suc depth) octets header after content rest id indefinite headers some whole h s c =
    let e : suc depth - 1 ≡ depth = omega arith in
    let m = ended_made depth octets header after content rest id c.0 h s
    (subst (λ (d : ℕ). IsEndedContent d after content rest c.0) e c.1) in
    let k : c.0 + 2 ≡ suc headers = omega (arith, c.2) in (
      header ++ (content ++ end_of_contents),
      subst (λ (n : ℕ). IsNestedElement (suc depth) (header ++ (content ++ end_of_contents)) (record {
        id = id;
        form = indefinite;
        content = content;
      }) n) k m.0,
      m.1,
    )

-- A fault of the header is one of the element at each depth.
pub header_fault_first : (depth : ℕ) (octets : List ℕ) (fault : Fault) → HeaderFault ber_rule octets fault →
    ElementFault depth octets fault
unfolding ElementFault
header_fault_first zero octets fault why = inl why
header_fault_first (suc depth) octets fault why = inl why

-- below depth 1 a header is too deep
pub too_deep : (depth : ℕ) (octets header rest : List ℕ) (id : Identifier) (form : LengthForm) → depth ≡ 0 →
    IsHeader ber_rule header id form → octets ≡ header ++ rest → ElementFault depth octets depth_fault
unfolding ElementFault
too_deep zero octets header rest id form z h s = inr ((header, rest, id, form, h, s), refl)
too_deep (suc depth) octets header rest id form z h s = absurd (omega arith)

-- a fault behind an indefinite header
pub end_fault_opened : (depth : ℕ) (octets header after : List ℕ) (id : Identifier) (fault : Fault) →
    IsHeader ber_rule header id indefinite → octets ≡ header ++ after → EndFault depth after fault →
    ElementFault (suc depth) octets fault
unfolding ElementFault
end_fault_opened depth octets header after id fault h s why =
    inr (inr (
      why.rest,
      record {
        header = header;
        words = why.words;
        id = id;
        headers = why.headers;
        header_is = h;
        is = s ∙ ap (λ (ys : List ℕ). header ++ ys) why.is;
        row = why.row;
      },
      why.why,
    ))

-- A fault of the contents octets behind a header is one of the element.
pub content_fault_behind : (depth : ℕ) (octets header after : List ℕ) (id : Identifier) (form : LengthForm)
    (fault : Fault) → 1 ≤ depth → IsHeader ber_rule header id form → octets ≡ header ++ after →
    ContentFault form (depth - 1) after fault → ElementFault depth octets fault
unfolding ElementFault
content_fault_behind zero octets header after id form fault some h s why = absurd (omega arith)
content_fault_behind (suc depth) octets header after id (definite n) fault some h s why =
    inr (inl (record {
      header = header;
      rest = after;
      id = id;
      counted = n;
      lacking = why.0;
      header_is = h;
      is = s;
      some = why.1;
      sum = why.2;
      fault_is = why.3;
    }))
content_fault_behind (suc depth) octets header after id indefinite fault some h s why =
    let e : suc depth - 1 ≡ depth = omega arith in
    end_fault_opened depth octets header after id fault h s (subst (λ (d : ℕ). EndFault d after fault) e why)

-- Contents octets that begin one input are the same, with as many headers, and the same follows.
pub content_unique : (form : LengthForm) (depth : ℕ) (octets content other rest tail : List ℕ) (g h : ℕ) →
    IsContent form depth octets content rest g → IsContent form depth octets other tail h →
    (content ≡ other) × (rest ≡ tail) × (g ≡ h)
content_unique (definite n) depth octets content other rest tail g h a b =
    let s : content ++ rest ≡ other ++ tail = sym a.1 ∙ b.1 in
    let c = same_front content other rest tail (omega (arith, a.0, b.0)) s in
    (c, append_cancel_left other rest tail (ap (λ (ys : List ℕ). ys ++ rest) (sym c) ∙ s), a.2 ∙ sym b.2)
content_unique indefinite depth octets content other rest tail g h a b =
    let p = a.1 in
    let q = b.1 in
    let s : concat p.words ++ (end_of_contents ++ rest) ≡ concat q.words ++ (end_of_contents ++ tail) =
    ap (λ (ys : List ℕ). ys ++ (end_of_contents ++ rest)) (sym p.content_is) ∙ sym p.is ∙ q.is
    ∙ ap (λ (ys : List ℕ). ys ++ (end_of_contents ++ tail)) q.content_is in
    let u = words_unique depth p.words q.words rest tail a.0 b.0 p.row q.row s in
    (p.content_is ∙ ap concat u.0 ∙ sym q.content_is, u.2, omega (arith, a.2, b.2, u.1))

-- with more octets behind them they stay
pub content_extends : (form : LengthForm) (depth : ℕ) (octets content rest more : List ℕ) (g : ℕ) →
    IsContent form depth octets content rest g → IsContent form depth (octets ++ more) content (rest ++ more) g
content_extends (definite n) depth octets content rest more g a =
    (a.0, ap (λ (ys : List ℕ). ys ++ more) a.1 ∙ append_assoc content rest more, a.2)
content_extends indefinite depth octets content rest more g a =
    let c = a.1 in (
      a.0,
      record {
        some = c.some;
        words = c.words;
        row = c.row;
        content_is = c.content_is;
        is = ap (λ (ys : List ℕ). ys ++ more) c.is ∙ append_assoc content (end_of_contents ++ rest) more
            ∙ ap (λ (ys : List ℕ). content ++ ys) (append_assoc end_of_contents rest more);
      },
      a.2,
    )

-- the shortest indefinite header: any contents octets may stand behind it
opening : List ℕ
opening = 48 ∷ 128 ∷ []

opening_identifier : Identifier
opening_identifier = record { class = 0; constructed = true; number = 16 }

opening_header : IsHeader ber_rule opening opening_identifier indefinite
unfolding opening opening_identifier
opening_header = record {
  identifier = 48 ∷ [];
  count = 128 ∷ [];
  is = refl;
  identifier_is = (16, omega arith, omega arith, refl, inl (refl, omega arith, refl));
  count_is = refl;
  identifier_allowed = refl;
  count_allowed = refl;
}

behind_opening : (depth : ℕ) (octets : List ℕ) (fault : Fault) → EndFault depth octets fault →
    ElementFault (suc depth) (opening ++ octets) fault
behind_opening depth octets fault why =
    end_fault_opened depth (opening ++ octets) opening octets opening_identifier fault opening_header refl why

-- Octets have one fault of contents octets.
pub one_content_fault : (form : LengthForm) (depth : ℕ) (octets : List ℕ) (f g : Fault) →
    ContentFault form depth octets f → ContentFault form depth octets g → f ≡ g
one_content_fault (definite n) depth octets f g a b = a.3 ∙ ap missing (omega (arith, a.2, b.2)) ∙ sym b.3
one_content_fault indefinite depth octets f g a b =
    one_element_fault (suc depth) (opening ++ octets) f g (behind_opening depth octets f a)
    (behind_opening depth octets g b)

-- where contents octets begin the octets there is no fault
pub content_or_fault : (form : LengthForm) (depth : ℕ) (octets content rest : List ℕ) (headers : ℕ) (fault : Fault) →
    IsContent form depth octets content rest headers → ContentFault form depth octets fault → ⊥
content_or_fault (definite n) depth octets content rest headers fault a b =
    omega (arith, a.0, ap length a.1, length-append content rest, b.1, b.2)
content_or_fault indefinite depth octets content rest headers fault a b =
    let m = ended_made depth
    (opening ++ octets) opening octets content rest opening_identifier a.0 opening_header refl a.1 in
    element_or_fault (suc depth) (opening ++ octets) (opening ++ (content ++ end_of_contents)) rest _ (a.0 + 2) fault
    (behind_opening depth octets fault b) m.0 m.1
