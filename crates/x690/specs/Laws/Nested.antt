-- Laws of elements by BER.
pub mod Rows
pub mod Faults
pub mod FaultHeaders
pub mod Contents
pub mod IndefiniteContents
pub mod Complete
use Rattle.std.proofs.Common.{◌≡◌, ◌≢◌, ℕ, zero, suc, ◌+◌, ◌-◌, ◌*◌, ◌≤◌, false, List, [], ◌∷◌, ◌++◌, length, refl, sym}
use Rattle.std.proofs.Common.{ap, ◌∙◌, arith, subst, inl, inr, append_assoc, length-append}
use Rattle.std.specs.List.{concat}
use Rattle.std.proofs.lemmas.List.{append_cancel_left}
use Rattle.x690.specs.Octets.{IsOctets}
use Rattle.x690.specs.Identifiers.{Identifier}
use Rattle.x690.specs.Lengths.{definite, indefinite}
use Rattle.x690.specs.Rules.{Rule, ber_rule}
use Rattle.x690.specs.Elements.{Parts, IsHeader, IsDefiniteElement, ArePossible}
use Rattle.x690.specs.Nested.{IsRow, IsIndefiniteElement, IsNestedElement, IsWord, end_of_contents}
use Rattle.x690.specs.Laws.Octets.{octets_append, octets_front, octets_back, below_octets}
use Rattle.x690.specs.Laws.Identifiers.{identifier_bounds}
use Rattle.x690.specs.Laws.Headers.{header_unique, header_peel, header_definite, header_two, header_is_octets}
use Rattle.x690.specs.Laws.Headers.{not_both_forms}
use Rattle.x690.specs.Laws.Elements.{same_parts, definite_element_unique, definite_element_two}
use Rattle.x690.specs.Laws.Elements.{definite_element_is_octets}
use Rattle.x690.specs.Laws.Nested.Rows.{AreWordsUnique, IsEndWhole, rows_unique, row_half, row_map, row_is_octets}

-- what 00 00 says as a header: universal, primitive, tag number 0
abbrev pub end_identifier : Identifier
end_identifier = record { class = 0; constructed = false; number = 0 }

-- The end of contents is a header of no contents octets.
pub end_header : IsHeader ber_rule end_of_contents end_identifier (definite 0)
end_header = record {
  identifier = 0 ∷ [];
  count = 0 ∷ [];
  is = refl;
  identifier_is = (0, omega arith, omega arith, refl, inl (refl, omega arith, refl));
  count_is = inl (omega arith, refl);
  identifier_allowed = refl;
  count_allowed = refl;
}

-- the parts of the end of contents
abbrev pub end_parts : Parts
end_parts = record { id = end_identifier; form = definite 0; content = [] }

-- 00 00 is itself an element of definite length
pub end_element : IsDefiniteElement ber_rule end_of_contents end_parts
end_element = record {
  header = end_of_contents;
  header_is = end_header;
  counted = refl;
  content_octets = below_octets [] tt;
  is = refl;
}

-- no indefinite header begins 00 00
pub indefinite_not_end : (header more : List ℕ) (id : Identifier) → IsHeader ber_rule header id indefinite →
    header ++ more ≢ end_of_contents
indefinite_not_end header more id h e =
    let u = header_unique ber_rule ber_rule header end_of_contents more [] id end_identifier indefinite
    (definite 0) h end_header e in
    not_both_forms 0 (definite 0) indefinite refl refl (sym u.2)

definite_by_ber : (rule : Rule) (o : List ℕ) (p : Parts) → IsDefiniteElement rule o p → IsDefiniteElement ber_rule o p
definite_by_ber rule o p a = record {
  header = a.header;
  header_is = header_definite rule a.header p.id p.form (length p.content) a.counted a.header_is;
  counted = a.counted;
  content_octets = a.content_octets;
  is = a.is;
}

-- an element of definite length by any rule is one by BER of every depth from 1 on
pub definite_is_nested : (rule : Rule) (depth : ℕ) (o : List ℕ) (p : Parts) → 1 ≤ depth → IsDefiniteElement rule o p →
    IsNestedElement depth o p 1
unfolding IsNestedElement
definite_is_nested rule zero o p some a = absurd (omega arith)
definite_is_nested rule (suc depth) o p some a = inl (definite_by_ber rule o p a, refl)

-- and one of definite form is of definite length
pub nested_is_definite : (depth : ℕ) (o : List ℕ) (p : Parts) (h n : ℕ) → p.form ≡ definite n →
    IsNestedElement depth o p h → IsDefiniteElement ber_rule o p × (h ≡ 1)
unfolding IsNestedElement
nested_is_definite zero o p h n f a = absurd a
nested_is_definite (suc depth) o p h n f (inl a) = (a.0, a.1)
nested_is_definite (suc depth) o p h n f (inr a) = absurd (not_both_forms n p.form p.form f a.1.form refl)

-- a definite element is no indefinite one
definite_not_indefinite : (Word : List ℕ → ℕ → Type 0) (o q x y : List ℕ) (p r : Parts) (h : ℕ) →
    IsDefiniteElement ber_rule o p → IsIndefiniteElement Word q r h → o ++ x ≡ q ++ y → ⊥
definite_not_indefinite Word o q x y p r h a b e =
    let u = header_peel ber_rule ber_rule a.header b.header p.content
    (r.content ++ end_of_contents) x y p.id r.id p.form r.form a.header_is b.header_is
    (ap (λ (ys : List ℕ). ys ++ x) (sym a.is) ∙ e ∙ ap (λ (ys : List ℕ). ys ++ y) b.is) in
    not_both_forms (length p.content) p.form r.form a.counted b.form u.2

-- an element that begins with 00 00 is 00 00
pub word_end_whole : (depth : ℕ) → IsEndWhole (IsWord depth)
unfolding IsNestedElement
word_end_whole zero o x y g w e = absurd w.1
word_end_whole (suc depth) o x y g w e = elim w.1 [
  | inl a ↦ (definite_element_unique ber_rule ber_rule o end_of_contents x y w.0 end_parts a.0 end_element e).0
  | inr a ↦
      absurd (definite_not_indefinite (IsWord depth) end_of_contents o y x end_parts w.0 g end_element a.1 (sym e))
]

indefinite_unique : (Word : List ℕ → ℕ → Type 0) → AreWordsUnique Word → IsEndWhole Word →
    (o q x y : List ℕ) (p r : Parts) (g h : ℕ) → IsIndefiniteElement Word o p g → IsIndefiniteElement Word q r h →
    o ++ x ≡ q ++ y → (o ≡ q) × (p ≡ r) × (g ≡ h)
indefinite_unique Word unique whole o q x y p r g h a b e =
    let u = header_peel ber_rule ber_rule a.header b.header (p.content ++ end_of_contents)
    (r.content ++ end_of_contents) x y p.id r.id p.form r.form a.header_is b.header_is
    (ap (λ (ys : List ℕ). ys ++ x) (sym a.is) ∙ e ∙ ap (λ (ys : List ℕ). ys ++ y) b.is) in
    let s : concat a.words ++ (end_of_contents ++ x) ≡ concat b.words ++ (end_of_contents ++ y) =
    ap (λ (ys : List ℕ). ys ++ (end_of_contents ++ x)) (sym a.content)
    ∙ sym (append_assoc p.content end_of_contents x) ∙ u.3 ∙ append_assoc r.content end_of_contents y
    ∙ ap (λ (ys : List ℕ). ys ++ (end_of_contents ++ y)) b.content in
    let w = rows_unique Word unique whole a.words b.words x y a.inner b.inner a.row b.row s in
    let c : p.content ≡ r.content = a.content ∙ ap concat w.0 ∙ sym b.content in (
      a.is ∙ ap (λ (ys : List ℕ). ys ++ (p.content ++ end_of_contents)) u.0
          ∙ ap (λ (ys : List ℕ). b.header ++ (ys ++ end_of_contents)) c ∙ sym b.is,
      same_parts p.id r.id p.form r.form p.content r.content u.1 u.2 c,
      a.counted ∙ ap (λ n. n + 2) w.1 ∙ sym b.counted,
    )

nested_same : (depth : ℕ) (o q x y : List ℕ) (p r : Parts) (g h : ℕ) → IsNestedElement depth o p g →
    IsNestedElement depth q r h → o ++ x ≡ q ++ y → (o ≡ q) × (p ≡ r) × (g ≡ h)
unfolding IsNestedElement
nested_same zero o q x y p r g h a b e = absurd a
nested_same (suc depth) o q x y p r g h (inl a) (inl b) e =
    let u = definite_element_unique ber_rule ber_rule o q x y p r a.0 b.0 e in
    (u.0, u.1, a.1 ∙ sym b.1)
nested_same (suc depth) o q x y p r g h (inl a) (inr b) e =
    absurd (definite_not_indefinite (IsWord depth) o q x y p r h a.0 b.1 e)
nested_same (suc depth) o q x y p r g h (inr a) (inl b) e =
    absurd (definite_not_indefinite (IsWord depth) q o y x r p g b.0 a.1 (sym e))
nested_same (suc depth) o q x y p r g h (inr a) (inr b) e =
    indefinite_unique (IsWord depth)
    (λ o q x y g h a b e. let u = nested_same depth o q x y a.0 b.0 g h a.1 b.1 e in (u.0, u.2))
    (word_end_whole depth) o q x y p r g h a.1 b.1 e

-- Elements of one depth that begin one input are the same with the same parts and headers, and the same follows.
pub nested_element_unique : (depth : ℕ) (o q x y : List ℕ) (p r : Parts) (g h : ℕ) → IsNestedElement depth o p g →
    IsNestedElement depth q r h → o ++ x ≡ q ++ y → (o ≡ q) × (p ≡ r) × (g ≡ h) × (x ≡ y)
nested_element_unique depth o q x y p r g h a b e =
    let u = nested_same depth o q x y p r g h a b e in
    (u.0, u.1, u.2, append_cancel_left q x y (ap (λ (ys : List ℕ). ys ++ x) (sym u.0) ∙ e))

-- Two words that begin one input are the same.
pub words_are_unique : (depth : ℕ) → AreWordsUnique (IsWord depth)
words_are_unique depth o q x y g h a b e = let u = nested_same depth o q x y a.0 b.0 g h a.1 b.1 e in (u.0, u.2)

-- octets split into elements and 00 00 in one way
pub words_unique : (depth : ℕ) (ws vs : List (List ℕ)) (x y : List ℕ) (g h : ℕ) → IsRow (IsWord depth) ws g →
    IsRow (IsWord depth) vs h → concat ws ++ (end_of_contents ++ x) ≡ concat vs ++ (end_of_contents ++ y) →
    (ws ≡ vs) × (g ≡ h) × (x ≡ y)
words_unique depth = rows_unique (IsWord depth) (words_are_unique depth) (word_end_whole depth)

-- The element that begins an input is the one that begins it with more octets behind.
pub nested_element_lasts : (depth : ℕ) (octets tail behind o q rest : List ℕ) (p r : Parts) (g h : ℕ) →
    IsNestedElement depth q r g → octets ≡ q ++ tail → IsNestedElement depth o p h → octets ++ behind ≡ o ++ rest →
    (o ≡ q) × (p ≡ r) × (h ≡ g) × (rest ≡ tail ++ behind)
nested_element_lasts depth octets tail behind o q rest p r g h a s b e =
    nested_element_unique depth o q rest (tail ++ behind) p r h g b a
    (sym e ∙ ap (λ (ys : List ℕ). ys ++ behind) s ∙ append_assoc q tail behind)

-- an element begins with a header
pub nested_header : (depth : ℕ) (o : List ℕ) (p : Parts) (g : ℕ) → IsNestedElement depth o p g →
    (header : List ℕ) × (more : List ℕ) × IsHeader ber_rule header p.id p.form × (o ≡ header ++ more)
unfolding IsNestedElement
nested_header zero o p g a = absurd a
nested_header (suc depth) o p g (inl a) = (a.0.header, p.content, a.0.header_is, a.0.is)
nested_header (suc depth) o p g (inr a) = (a.1.header, p.content ++ end_of_contents, a.1.header_is, a.1.is)

-- an element has two octets at least
pub nested_element_two : (depth : ℕ) (o : List ℕ) (p : Parts) (g : ℕ) → IsNestedElement depth o p g → 2 ≤ length o
nested_element_two depth o p g a =
    let h = nested_header depth o p g a in
    omega (arith, header_two ber_rule h.0 p.id p.form h.2, ap length h.3, length-append h.0 h.1)

-- headers number at most half of an element's octets
pub nested_element_half : (depth : ℕ) (o : List ℕ) (p : Parts) (h : ℕ) → IsNestedElement depth o p h → 2 * h ≤ length o
unfolding IsNestedElement
nested_element_half zero o p h a = absurd a
nested_element_half (suc depth) o p h (inl a) = omega (arith, definite_element_two ber_rule o p a.0, a.1)
nested_element_half (suc depth) o p h (inr b) =
    let a = b.1 in
    let r = row_half (IsWord depth) (λ w g k. nested_element_half depth w k.0 g k.1) a.words a.inner a.row in
    let l : length o ≡ length a.header + (length p.content + 2) =
    ap length a.is ∙ length-append a.header (p.content ++ end_of_contents)
    ∙ ap (λ n. length a.header + n) (length-append p.content end_of_contents) in
    omega (arith, header_two ber_rule a.header p.id p.form a.header_is, l, ap length a.content, r, a.counted)

indefinite_map : (Word Other : List ℕ → ℕ → Type 0) → ((w : List ℕ) (g : ℕ) → Word w g → Other w g) →
    (o : List ℕ) (p : Parts) (h : ℕ) → IsIndefiniteElement Word o p h → IsIndefiniteElement Other o p h
indefinite_map Word Other f o p h a =
    record {
      header = a.header;
      header_is = a.header_is;
      form = a.form;
      words = a.words;
      inner = a.inner;
      row = row_map Word Other f a.words a.inner a.row;
      content = a.content;
      counted = a.counted;
      is = a.is;
    }

nested_one_deeper : (depth : ℕ) (o : List ℕ) (p : Parts) (h : ℕ) → IsNestedElement depth o p h →
    IsNestedElement (suc depth) o p h
unfolding IsNestedElement
nested_one_deeper zero o p h a = absurd a
nested_one_deeper (suc depth) o p h (inl a) = inl a
nested_one_deeper (suc depth) o p h (inr a) =
    inr (
      omega arith,
      indefinite_map (IsWord depth) (IsWord (suc depth))
          (λ w g k. (k.0, nested_one_deeper depth w k.0 g k.1)) o p h a.1,
    )

nested_deeper_by : (more depth : ℕ) (o : List ℕ) (p : Parts) (h : ℕ) → IsNestedElement depth o p h →
    IsNestedElement (more + depth) o p h
nested_deeper_by zero depth o p h a =
    let e : depth ≡ 0 + depth = omega arith in
    subst (λ (d : ℕ). IsNestedElement d o p h) e a
nested_deeper_by (suc more) depth o p h a =
    let e : suc (more + depth) ≡ suc more + depth = omega arith in
    subst (λ (d : ℕ). IsNestedElement d o p h) e
    (nested_one_deeper (more + depth) o p h (nested_deeper_by more depth o p h a))

-- an element of one depth is one of each greater depth
pub nested_element_deeper : (depth deeper : ℕ) (o : List ℕ) (p : Parts) (h : ℕ) → depth ≤ deeper →
    IsNestedElement depth o p h → IsNestedElement deeper o p h
nested_element_deeper depth deeper o p h le a =
    let e : (deeper - depth) + depth ≡ deeper = omega arith in
    subst (λ (d : ℕ). IsNestedElement d o p h) e (nested_deeper_by (deeper - depth) depth o p h a)

-- Elements that begin one input are the same, of whatever depths.
pub nested_element_unique_deep : (depth other : ℕ) (o q x y : List ℕ) (p r : Parts) (g h : ℕ) →
    IsNestedElement depth o p g → IsNestedElement other q r h → o ++ x ≡ q ++ y → (o ≡ q) × (p ≡ r) × (g ≡ h) × (x ≡ y)
nested_element_unique_deep depth other o q x y p r g h a b e =
    nested_element_unique (depth + other) o q x y p r g h
    (nested_element_deeper depth (depth + other) o p g (omega arith) a)
    (nested_element_deeper other (depth + other) q r h (omega arith) b) e

-- An element by BER is octets.
pub nested_element_is_octets : (depth : ℕ) (o : List ℕ) (p : Parts) (h : ℕ) → IsNestedElement depth o p h → IsOctets o
unfolding IsNestedElement
nested_element_is_octets zero o p h a = absurd a
nested_element_is_octets (suc depth) o p h (inl a) = definite_element_is_octets ber_rule o p a.0
nested_element_is_octets (suc depth) o p h (inr b) =
    let a = b.1 in
    let c : IsOctets p.content = subst IsOctets (sym a.content)
    (row_is_octets (IsWord depth) (λ w g k. nested_element_is_octets depth w k.0 g k.1) a.words a.inner a.row) in
    let t : IsOctets end_of_contents =
    header_is_octets ber_rule end_of_contents end_identifier (definite 0) end_header in
    subst IsOctets (sym a.is) (octets_append a.header (p.content ++ end_of_contents)
    (header_is_octets ber_rule a.header p.id p.form a.header_is) (octets_append p.content end_of_contents c t))

-- So are its contents octets.
pub nested_content_is_octets : (depth : ℕ) (o : List ℕ) (p : Parts) (h : ℕ) → IsNestedElement depth o p h →
    IsOctets p.content
unfolding IsNestedElement
nested_content_is_octets zero o p h n = absurd n
nested_content_is_octets (suc depth) o p h (inl n) = n.0.content_octets
nested_content_is_octets (suc depth) o p h (inr n) =
    let all = subst IsOctets n.1.is (nested_element_is_octets (suc depth) o p h (inr n)) in
    octets_front p.content end_of_contents (octets_back n.1.header (p.content ++ end_of_contents) all)

-- Its parts are such as an element can have.
pub nested_possible : (depth : ℕ) (o : List ℕ) (p : Parts) (h : ℕ) → IsNestedElement depth o p h → ArePossible p
nested_possible depth o p h n =
    let w = nested_header depth o p h n in
    let b = identifier_bounds w.2.identifier p.id w.2.identifier_is in
    record { class = b.0; number = b.1; content = nested_content_is_octets depth o p h n }
