-- Octets that end within an identifier, a header or an element: which fault they have.
use Rattle.std.proofs.Common.{◌≡◌, ◌≢◌, ℕ, zero, suc, ◌≤◌, List, [], ◌∷◌, ◌++◌, length, drop, refl, sym, ap, ◌∙◌, arith}
use Rattle.std.proofs.Common.{subst, inl, inr, append_assoc, append-nil, length-drop}
use Rattle.std.proofs.lemmas.Bool.{cases_lt}
use Rattle.x690.specs.Identifiers.{Identifier, IsIdentifier, IsTruncatedIdentifier}
use Rattle.x690.specs.Lengths.{LengthForm}
use Rattle.x690.specs.Rules.{Rule, der_rule, ber_rule}
use Rattle.x690.specs.Elements.{Parts, IsHeader, IsDerElement}
use Rattle.x690.specs.Faults.{Fault, missing, tag_fault, length_fault, rule_fault, depth_fault, Violation, IdentifierFault}
use Rattle.x690.specs.Faults.{HeaderFault, DerElementFault, SpeaksOf, IsLackingOrTruncated}
use Rattle.x690.specs.Nested.{IsNestedElement, ElementFault, EndsInIdentifier, end_of_contents}
use Rattle.x690.specs.Laws.Identifiers.{identifier_unique}
use Rattle.x690.specs.Laws.Faults.{shorter_front, no_header, no_der_element}
use Rattle.x690.specs.Laws.Nested.{end_parts, end_element, definite_is_nested, nested_header}
use Rattle.x690.specs.Laws.Nested.Faults.{no_element, opened_not_definite, opened_goes_on}

-- an identifier that is cut is a fault of the identifier
truncated_identifier_fault : (octets : List ℕ) → IsTruncatedIdentifier octets → IdentifierFault octets tag_fault
truncated_identifier_fault octets c = (
  c.some,
  λ front rest id e i.
      let whole : front ++ (rest ++ c.more) ≡ (octets ++ c.more) ++ [] = sym (append_assoc front rest c.more)
      ∙ ap (λ (ys : List ℕ). ys ++ c.more) (sym e) ∙ sym (append-nil (octets ++ c.more)) in
      let u = identifier_unique front (octets ++ c.more) (rest ++ c.more) [] id c.id i c.whole whole in
      c.missing (no_more rest c.more u.2),
)
  where
    no_more : (rest more : List ℕ) → rest ++ more ≡ [] → more ≡ []
    no_more [] more e = e
    no_more (x ∷ rest) more e = cc

-- Octets that end within an identifier have its fault by any rule.
pub truncated_header_fault : (rule : Rule) (octets : List ℕ) → IsTruncatedIdentifier octets → HeaderFault rule octets tag_fault
truncated_header_fault rule octets c = inl (truncated_identifier_fault octets c)

-- octets that end within an identifier have its fault
pub within_fault : (depth : ℕ) (octets : List ℕ) → EndsInIdentifier depth octets → ElementFault depth octets tag_fault
unfolding EndsInIdentifier ElementFault
within_fault zero octets c = inl (truncated_header_fault ber_rule octets c)
within_fault (suc depth) octets (inl c) = inl (truncated_header_fault ber_rule octets c)
within_fault (suc depth) octets (inr c) = inr (inr (c.0, c.1, within_fault depth c.0 c.2))

some_left : (l : List ℕ) → 1 ≤ length l → l ≢ []
some_left l h e = let s = ap length e in omega arith

-- where an identifier begins more octets, and none the octets themselves, these end within it
fault_is_truncated : (octets x o y : List ℕ) (id : Identifier) → IdentifierFault octets tag_fault → IsIdentifier o id →
    octets ++ x ≡ o ++ y → IsTruncatedIdentifier octets
fault_is_truncated octets x o y id why i h =
    elim (cases_lt (length octets) (length o)) [
      | inr p ↦ absurd (why.1 o (drop (length o) octets) id (shorter_front octets o x y h p) i)
      | inl p ↦
          let t : o ≡ octets ++ drop (length octets) o = shorter_front o octets y x (sym h) (omega arith) in
          let k : 1 ≤ length (drop (length octets) o) = omega (arith, length-drop (length octets) o) in
          record {
            more = drop (length octets) o;
            id = id;
            some = why.0;
            missing = some_left (drop (length octets) o) k;
            whole = subst (λ (ys : List ℕ). IsIdentifier ys id) t i;
          }
    ]

tag_not_rule : (b : Violation) → tag_fault ≡ rule_fault b → ⊥
tag_not_rule b e = cc

-- the same of a header
header_is_truncated : (rule : Rule) (octets x o y : List ℕ) (id : Identifier) (form : LengthForm) →
    HeaderFault rule octets tag_fault → IsHeader rule o id form → octets ++ x ≡ o ++ y → IsTruncatedIdentifier octets
header_is_truncated rule octets x o y id form (inl why) h e =
    fault_is_truncated octets x h.identifier (h.count ++ y) id why h.identifier_is
    (e ∙ ap (λ (ys : List ℕ). ys ++ y) h.is ∙ append_assoc h.identifier h.count y)
header_is_truncated rule octets x o y id form (inr why) h e = elim why.why [
  | inl p ↦ absurd (tag_not_rule _ p.1)
  | inr (allowed, inl p) ↦ absurd p
  | inr (allowed, inr p) ↦ absurd (tag_not_rule _ p.fault_is)
]

tag_not_missing : (n : ℕ) → tag_fault ≡ missing n → ⊥
tag_not_missing n e = cc

-- of an element by DER
der_is_truncated : (octets x o y : List ℕ) (p : Parts) → DerElementFault octets tag_fault → IsDerElement o p →
    octets ++ x ≡ o ++ y → IsTruncatedIdentifier octets
der_is_truncated octets x o y p (inl why) b e =
    header_is_truncated der_rule octets x b.header (p.content ++ y) p.id p.form why b.header_is
    (e ∙ ap (λ (ys : List ℕ). ys ++ y) b.is ∙ append_assoc b.header p.content y)
der_is_truncated octets x o y p (inr why) b e = absurd (tag_not_missing why.lacking why.fault_is)

-- and of an element by BER
element_is_truncated : (depth : ℕ) (octets x o y : List ℕ) (p : Parts) (h : ℕ) → ElementFault depth octets tag_fault →
    IsNestedElement depth o p h → octets ++ x ≡ o ++ y → EndsInIdentifier depth octets
unfolding IsNestedElement ElementFault EndsInIdentifier
element_is_truncated zero octets x o y p h why b e = absurd b
element_is_truncated (suc depth) octets x o y p h (inl why) b e =
    let w = nested_header (suc depth) o p h b in
    inl (header_is_truncated ber_rule octets x w.0 (w.1 ++ y) p.id p.form why w.2
    (e ∙ ap (λ (ys : List ℕ). ys ++ y) w.3 ∙ append_assoc w.0 w.1 y))
element_is_truncated (suc depth) octets x o y p h (inr (inl why)) b e = absurd (tag_not_missing why.lacking why.fault_is)
element_is_truncated (suc depth) octets x o y p h (inr (inr why)) (inl b) e =
    absurd (opened_not_definite depth octets why.0 x o y p why.1 b.0 e)
element_is_truncated (suc depth) octets x o y p h (inr (inr why)) (inr b) e =
    elim (opened_goes_on depth octets why.0 x o y p h why.1 b.1 e) [
      | inl z ↦ inr (
        why.0,
        why.1,
        element_is_truncated depth why.0 x end_of_contents y end_parts 1 why.2
            (definite_is_nested ber_rule depth end_of_contents end_parts b.0 end_element) z,
      )
      | inr z ↦
          inr (why.0, why.1, element_is_truncated depth why.0 x z.word z.rest z.word_is.0 z.headers why.2 z.word_is.1 z.is)
    ]

-- a fault that does not speak of more octets lacks no more than these, or is that of an identifier that is cut
lacking_or_truncated : (truncated : Type 0) (fault : Fault) (x : List ℕ) → (SpeaksOf truncated fault x → ⊥) → (fault ≡ tag_fault → truncated) →
    IsLackingOrTruncated truncated fault x
lacking_or_truncated truncated (missing n) x silent c =
    elim (cases_lt (length x) n) [ inl l ↦ absurd (silent l) | inr l ↦ inl (n, refl, l) ]
lacking_or_truncated truncated tag_fault x silent c = inr (refl, c refl)
lacking_or_truncated truncated length_fault x silent c = absurd (silent tt)
lacking_or_truncated truncated (rule_fault b) x silent c = absurd (silent tt)
lacking_or_truncated truncated depth_fault x silent c = absurd (silent tt)

-- So where more octets begin with a header, octets lack as many at most or end within its identifier.
pub header_beginning : (rule : Rule) (octets x o y : List ℕ) (id : Identifier) (form : LengthForm) (fault : Fault) →
    HeaderFault rule octets fault → IsHeader rule o id form → octets ++ x ≡ o ++ y →
    IsLackingOrTruncated (IsTruncatedIdentifier octets) fault x
header_beginning rule octets x o y id form fault why h e =
    lacking_or_truncated (IsTruncatedIdentifier octets) fault x (λ s. no_header rule octets x o y id form fault why s h e)
    (λ t. header_is_truncated rule octets x o y id form (subst (λ (f : Fault). HeaderFault rule octets f) t why) h e)

-- The fault of octets that more of them make begin with an element by DER lacks these, or is of a cut identifier.
pub der_beginning : (octets x o y : List ℕ) (p : Parts) (fault : Fault) → DerElementFault octets fault →
    IsDerElement o p → octets ++ x ≡ o ++ y → IsLackingOrTruncated (IsTruncatedIdentifier octets) fault x
der_beginning octets x o y p fault why b e =
    lacking_or_truncated (IsTruncatedIdentifier octets) fault x (λ s. no_der_element octets x o y p fault why s b e)
    (λ t. der_is_truncated octets x o y p (subst (λ (f : Fault). DerElementFault octets f) t why) b e)

-- So of an element by BER, whose fault may be of a cut identifier within it.
pub element_beginning : (depth : ℕ) (octets x o y : List ℕ) (p : Parts) (h : ℕ) (fault : Fault) →
    ElementFault depth octets fault → IsNestedElement depth o p h → octets ++ x ≡ o ++ y →
    IsLackingOrTruncated (EndsInIdentifier depth octets) fault x
element_beginning depth octets x o y p h fault why b e =
    lacking_or_truncated (EndsInIdentifier depth octets) fault x (λ s. no_element depth octets x o y p h fault why s b e)
    (λ t. element_is_truncated depth octets x o y p h (subst (λ (f : Fault). ElementFault depth octets f) t why) b e)
