-- Where there is a fault there is no element by BER, and there is one fault alone.
use Rattle.std.proofs.Common.{◌≡◌, ℕ, zero, suc, List, [], ◌++◌, length, refl, sym, ap, ◌∙◌, subst, inl, inr, ◌⊎◌}
use Rattle.std.proofs.Common.{append_assoc, append-nil}
use Rattle.std.specs.List.{concat}
use Rattle.x690.specs.Identifiers.{IsTruncatedIdentifier}
use Rattle.x690.specs.Lengths.{definite, indefinite}
use Rattle.x690.specs.Rules.{ber_rule}
use Rattle.x690.specs.Elements.{Parts, IsDefiniteElement}
use Rattle.x690.specs.Faults.{Fault, missing, tag_fault, length_fault, rule_fault, depth_fault, HeaderFault}
use Rattle.x690.specs.Faults.{IsTruncatedContent, SpeaksOf}
use Rattle.x690.specs.Nested.{IsIndefiniteElement, IsNestedElement, IsWord, IsOpened, ElementFault, EndsInIdentifier}
use Rattle.x690.specs.Nested.{end_of_contents}
use Rattle.x690.specs.Laws.Headers.{header_unique, header_peel, not_both_forms}
use Rattle.x690.specs.Laws.Faults.{no_header, no_content, CountsSome, header_fault_counts, truncated_content_counts}
use Rattle.x690.specs.Laws.Faults.{speaks_now, header_or_fault, one_header_fault, one_truncated_content}
use Rattle.x690.specs.Laws.Nested.Rows.{BeginsWithWord, rows_compared, row_goes_on}
use Rattle.x690.specs.Laws.Nested.{end_parts, end_element, definite_is_nested, word_end_whole, words_are_unique}
use Rattle.x690.specs.Laws.Nested.{nested_header}

-- what speaks of octets that end within an identifier speaks where they end so by less
speaks_within : (truncated less : Type 0) (fault : Fault) (x : List ℕ) → (less → truncated) → SpeaksOf truncated fault x →
    SpeaksOf less fault x
speaks_within truncated less (missing n) x f s = s
speaks_within truncated less tag_fault x f (inl s) = inl s
speaks_within truncated less tag_fault x f (inr s) = inr (λ t. s (f t))
speaks_within truncated less length_fault x f s = s
speaks_within truncated less (rule_fault b) x f s = s
speaks_within truncated less depth_fault x f s = s

-- a front that is an identifier cut short is such an end
truncated_ends : (depth : ℕ) (octets : List ℕ) → IsTruncatedIdentifier octets → EndsInIdentifier depth octets
unfolding EndsInIdentifier
truncated_ends zero octets c = c
truncated_ends (suc depth) octets c = inl c

opened_ends : (depth : ℕ) (octets rest : List ℕ) → IsOpened depth octets rest → EndsInIdentifier depth rest →
    EndsInIdentifier (suc depth) octets
unfolding EndsInIdentifier
opened_ends depth octets rest o t = inr (rest, o, t)

no_start : (depth : ℕ) (octets x o y : List ℕ) (p : Parts) (h : ℕ) (fault : Fault) → HeaderFault ber_rule octets fault →
    SpeaksOf (EndsInIdentifier depth octets) fault x → IsNestedElement depth o p h → octets ++ x ≡ o ++ y → ⊥
no_start depth octets x o y p h fault why s b e =
    let w = nested_header depth o p h b in
    no_header ber_rule octets x w.0 (w.1 ++ y) p.id p.form fault why
    (speaks_within (EndsInIdentifier depth octets) (IsTruncatedIdentifier octets) fault x (truncated_ends depth octets) s) w.2
    (e ∙ ap (λ (ys : List ℕ). ys ++ y) w.3 ∙ append_assoc w.0 w.1 y)

truncated_not_indefinite : (Word : List ℕ → ℕ → Type 0) (octets x o y : List ℕ) (p : Parts) (h : ℕ) (fault : Fault) →
    IsTruncatedContent ber_rule octets fault → IsIndefiniteElement Word o p h → octets ++ x ≡ o ++ y → ⊥
truncated_not_indefinite Word octets x o y p h fault why b e =
    let u = header_peel ber_rule ber_rule why.header b.header why.rest (p.content ++ end_of_contents) x y why.id p.id
    (definite why.counted) p.form why.header_is b.header_is
    (ap (λ (ys : List ℕ). ys ++ x) (sym why.is) ∙ e ∙ ap (λ (ys : List ℕ). ys ++ y) b.is) in
    not_both_forms why.counted (definite why.counted) p.form refl b.form u.2

pub opened_not_definite : (depth : ℕ) (octets rest x o y : List ℕ) (p : Parts) → IsOpened depth octets rest →
    IsDefiniteElement ber_rule o p → octets ++ x ≡ o ++ y → ⊥
opened_not_definite depth octets rest x o y p why b e =
    let u = header_peel ber_rule ber_rule b.header why.header p.content
    (concat why.words ++ rest) y x p.id why.id p.form indefinite b.header_is why.header_is
    (ap (λ (ys : List ℕ). ys ++ y) (sym b.is) ∙ sym e ∙ ap (λ (ys : List ℕ). ys ++ x) why.is) in
    not_both_forms (length p.content) p.form indefinite b.counted refl u.2

-- where an indefinite element begins opened octets, its end or one of its words begins what is behind the whole ones
pub opened_goes_on : (depth : ℕ) (octets rest x o y : List ℕ) (p : Parts) (h : ℕ) → IsOpened depth octets rest →
    IsIndefiniteElement (IsWord depth) o p h → octets ++ x ≡ o ++ y →
    (rest ++ x ≡ end_of_contents ++ y) ⊎ BeginsWithWord (IsWord depth) (rest ++ x)
opened_goes_on depth octets rest x o y p h why b e =
    let u = header_peel ber_rule ber_rule why.header b.header (concat why.words ++ rest)
    (p.content ++ end_of_contents) x y why.id p.id indefinite p.form why.header_is b.header_is
    (ap (λ (ys : List ℕ). ys ++ x) (sym why.is) ∙ e ∙ ap (λ (ys : List ℕ). ys ++ y) b.is) in
    let t : concat why.words ++ (rest ++ x) ≡ concat b.words ++ (end_of_contents ++ y) =
    sym (append_assoc (concat why.words) rest x) ∙ u.3 ∙ append_assoc p.content end_of_contents y
    ∙ ap (λ (ys : List ℕ). ys ++ (end_of_contents ++ y)) b.content in
    row_goes_on (IsWord depth) (words_are_unique depth) (word_end_whole depth) why.words b.words
    (rest ++ x) y why.headers b.inner why.row b.row t

-- Where there is a fault no element of the depth begins the octets, with more behind them of which the fault speaks.
pub no_element : (depth : ℕ) (octets x o y : List ℕ) (p : Parts) (h : ℕ) (fault : Fault) →
    ElementFault depth octets fault → SpeaksOf (EndsInIdentifier depth octets) fault x → IsNestedElement depth o p h →
    octets ++ x ≡ o ++ y → ⊥
unfolding IsNestedElement ElementFault
no_element zero octets x o y p h fault why s b e = b
no_element (suc depth) octets x o y p h fault (inl why) s b e = no_start (suc depth) octets x o y p h fault why s b e
no_element (suc depth) octets x o y p h fault (inr (inl why)) s (inl b) e =
    no_content ber_rule (EndsInIdentifier (suc depth) octets) octets x o y p fault why s b.0 e
no_element (suc depth) octets x o y p h fault (inr (inl why)) s (inr b) e =
    truncated_not_indefinite (IsWord depth) octets x o y p h fault why b.1 e
no_element (suc depth) octets x o y p h fault (inr (inr why)) s (inl b) e =
    opened_not_definite depth octets why.0 x o y p why.1 b.0 e
no_element (suc depth) octets x o y p h fault (inr (inr why)) s (inr b) e =
    let r = speaks_within (EndsInIdentifier (suc depth) octets) (EndsInIdentifier depth why.0) fault x
    (opened_ends depth octets why.0 why.1) s in
    elim (opened_goes_on depth octets why.0 x o y p h why.1 b.1 e) [
      | inl z ↦ no_element depth why.0 x end_of_contents y end_parts 1 fault why.2 r
          (definite_is_nested ber_rule depth end_of_contents end_parts b.0 end_element) z
      | inr z ↦ no_element depth why.0 x z.word z.rest z.word_is.0 z.headers fault why.2 r z.word_is.1 z.is
    ]

-- A fault of an element by BER that says how many octets are missing counts one at least.
pub element_fault_counts : (depth : ℕ) (octets : List ℕ) (fault : Fault) → ElementFault depth octets fault →
    CountsSome fault
unfolding ElementFault
element_fault_counts zero octets fault (inl why) = header_fault_counts ber_rule octets fault why
element_fault_counts zero octets fault (inr why) = subst CountsSome (sym why.1) tt
element_fault_counts (suc depth) octets fault (inl why) = header_fault_counts ber_rule octets fault why
element_fault_counts (suc depth) octets fault (inr (inl why)) = truncated_content_counts ber_rule octets fault why
element_fault_counts (suc depth) octets fault (inr (inr why)) = element_fault_counts depth why.0 fault why.2

-- where an element of the depth begins the octets there is no fault
pub element_or_fault : (depth : ℕ) (octets o y : List ℕ) (p : Parts) (h : ℕ) (fault : Fault) →
    ElementFault depth octets fault → IsNestedElement depth o p h → octets ≡ o ++ y → ⊥
element_or_fault depth octets o y p h fault why b e =
    no_element depth octets [] o y p h fault why
    (speaks_now (EndsInIdentifier depth octets) fault (element_fault_counts depth octets fault why)) b
    (append-nil octets ∙ e)

-- Octets with a fault of their header have no contents octets that are cut.
pub header_not_truncated : (octets : List ℕ) (f g : Fault) → HeaderFault ber_rule octets f →
    IsTruncatedContent ber_rule octets g → ⊥
header_not_truncated octets f g p q =
    header_or_fault ber_rule octets q.header q.rest q.id (definite q.counted) f p q.header_is q.is

-- They have no header of the indefinite form.
pub header_not_opened : (depth : ℕ) (octets rest : List ℕ) (f : Fault) → HeaderFault ber_rule octets f →
    IsOpened depth octets rest → ⊥
header_not_opened depth octets rest f p q =
    header_or_fault ber_rule octets q.header (concat q.words ++ rest) q.id indefinite f p q.header_is q.is

-- Octets whose contents octets are cut have no header of the indefinite form.
pub truncated_not_opened : (depth : ℕ) (octets rest : List ℕ) (f : Fault) → IsTruncatedContent ber_rule octets f →
    IsOpened depth octets rest → ⊥
truncated_not_opened depth octets rest f p q =
    let u = header_unique ber_rule ber_rule p.header q.header p.rest (concat q.words ++ rest) p.id q.id
    (definite p.counted) indefinite p.header_is q.header_is (sym p.is ∙ q.is) in
    not_both_forms p.counted (definite p.counted) indefinite refl refl u.2

-- one input opened in two ways: as many headers and the same rest, or one rest begins with a word
pub opened_compared : (depth : ℕ) (octets rest other : List ℕ) (p : IsOpened depth octets rest)
    (q : IsOpened depth octets other) → ((p.headers ≡ q.headers) × (rest ≡ other)) ⊎
    BeginsWithWord (IsWord depth) rest ⊎ BeginsWithWord (IsWord depth) other
opened_compared depth octets rest other p q =
    let u = header_unique ber_rule ber_rule p.header q.header (concat p.words ++ rest)
    (concat q.words ++ other) p.id q.id indefinite indefinite p.header_is q.header_is (sym p.is ∙ q.is) in
    elim (rows_compared (IsWord depth)
    (words_are_unique depth) p.words q.words rest other p.headers q.headers p.row q.row u.3) [
      | inl r ↦ inl (r.1, r.2)
      | inr r ↦ inr r
    ]

-- Where a word begins the octets there is no fault.
pub no_fault_at_word : (depth : ℕ) (octets : List ℕ) (f : Fault) → ElementFault depth octets f →
    BeginsWithWord (IsWord depth) octets → ⊥
no_fault_at_word depth octets f why b =
    element_or_fault depth octets b.word b.rest b.word_is.0 b.headers f why b.word_is.1 b.is

-- Octets with no element of the depth have one fault.
pub one_element_fault : (depth : ℕ) (octets : List ℕ) (f g : Fault) → ElementFault depth octets f →
    ElementFault depth octets g → f ≡ g
unfolding ElementFault
one_element_fault zero octets f g (inl p) (inl q) = one_header_fault ber_rule octets f g p q
one_element_fault zero octets f g (inl p) (inr q) =
    absurd (header_or_fault ber_rule octets q.0.0 q.0.1 q.0.2 q.0.3 f p q.0.4 q.0.5)
one_element_fault zero octets f g (inr p) (inl q) =
    absurd (header_or_fault ber_rule octets p.0.0 p.0.1 p.0.2 p.0.3 g q p.0.4 p.0.5)
one_element_fault zero octets f g (inr p) (inr q) = p.1 ∙ sym q.1
one_element_fault (suc depth) octets f g (inl p) (inl q) = one_header_fault ber_rule octets f g p q
one_element_fault (suc depth) octets f g (inl p) (inr (inl q)) = absurd (header_not_truncated octets f g p q)
one_element_fault (suc depth) octets f g (inl p) (inr (inr q)) = absurd (header_not_opened depth octets q.0 f p q.1)
one_element_fault (suc depth) octets f g (inr (inl p)) (inl q) = absurd (header_not_truncated octets g f q p)
one_element_fault (suc depth) octets f g (inr (inl p)) (inr (inl q)) = one_truncated_content ber_rule octets f g p q
one_element_fault (suc depth) octets f g (inr (inl p)) (inr (inr q)) = absurd (truncated_not_opened depth octets q.0 f p q.1)
one_element_fault (suc depth) octets f g (inr (inr p)) (inl q) = absurd (header_not_opened depth octets p.0 g q p.1)
one_element_fault (suc depth) octets f g (inr (inr p)) (inr (inl q)) = absurd (truncated_not_opened depth octets p.0 g q p.1)
one_element_fault (suc depth) octets f g (inr (inr p)) (inr (inr q)) =
    elim (opened_compared depth octets p.0 q.0 p.1 q.1) [
      | inl r ↦ one_element_fault depth p.0 f g p.2 (subst (λ (ys : List ℕ). ElementFault depth ys g) (sym r.1) q.2)
      | inr (inl r) ↦ absurd (no_fault_at_word depth p.0 f p.2 r)
      | inr (inr r) ↦ absurd (no_fault_at_word depth q.0 g q.2 r)
    ]
