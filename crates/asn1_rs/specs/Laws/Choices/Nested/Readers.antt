-- Readers of a choice and of other arms are exact together.
use Rattle.std.proofs.Common.{◌≡◌, ◌∙◌, ap, sym, refl, ℕ, inl, inr, Bool, true, false, List, ◌++◌, Result, Ok, Err}
use Rattle.std.specs.Prelude.{IfErr, None}
use Rattle.asn1_rs.specs.Prelude.{Error, Exactly, has_a_tag, IsTruncatedIdentifier, IsOctets, parts_of, TellsMemory}
use Rattle.x690.specs.Identifiers.{Identifier}
use Rattle.x690.specs.Elements.{Parts, IsDerElement}
use Rattle.asn1_headers.specs.Answers.{IsFinal}
use Rattle.asn1_headers.specs.declared.error.Err.{Err as Refusal}
use Rattle.asn1_headers.specs.declared.error.Err.TheVariants.{Error as refused}
use Rattle.asn1_headers.specs.declared.error.Error.TheVariants.{UnexpectedTag, OutOfMemory}
use Rattle.asn1_rs.specs.declared.asn1_types.any.Any.{Any}
use Rattle.asn1_rs.specs.Checks.{CheckGives}
use Rattle.asn1_rs.specs.Grammar.{TakesBody, Checks}
use Rattle.asn1_rs.specs.Grammar.Item.{ItemGrammar}
use Rattle.asn1_rs.specs.Kinds.{IsExactCheck}
use Rattle.asn1_rs.specs.Choices.{ArmsGrammar, CheckByTag, IsNoArm}
use Rattle.asn1_rs.specs.Laws.Choices.{clash, or_first, or_second}
use Rattle.asn1_rs.specs.Laws.Choices.Readers.{AreTagged}
use Rattle.asn1_rs.specs.Laws.Structs.Rows.{or_neither}
use Rattle.asn1_rs.specs.declared.choices.nested.OrChoice.{OrChoice}
use Rattle.asn1_rs.specs.declared.choices.nested.OrChoice.TheVariants as part
use Rattle.asn1_rs.specs.Choices.Nested.{or_choice, OrChoiceReads, OrChoiceGives, OrChoiceChecks}
use Rattle.asn1_rs.specs.Laws.Choices.Nested.{either_tag, tag_of_first, tag_of_other}

-- what has no tag of two lists has none of either
pub neither_tag : (tags others : List (ℕ × ℕ)) (i : Identifier) → has_a_tag (tags ++ others) i ≡ false →
    (has_a_tag tags i ≡ false) × (has_a_tag others i ≡ false)
neither_tag tags others i e = or_neither (has_a_tag tags i) (has_a_tag others i) (sym (either_tag tags others i) ∙ e)

-- what is asked where the tag is of the choice, and where it is not
check_either : (b c d : Bool) (P Q : Type 0) → (b ≡ true → d ≡ true) → (c ≡ true → d ≡ true) → (Q → c ≡ true) →
    CheckByTag b P Q → d ≡ true
check_either true c d P Q f g h p = f refl
check_either false c d P Q f g h q = g (h q)

module _ {A B : Type 0} (tags : List (ℕ × ℕ)) (G : ItemGrammar A) (H : ArmsGrammar B) where
  -- the two together
  abbrev Arms : ArmsGrammar (OrChoice A B)
  Arms = or_choice tags G H

  module _ (element : (o : List ℕ) (v : G.Value) → G.Der o v → (p : Parts) × IsDerElement o p) (m : AreTagged H) where
    tagged_element : (i : Identifier) (o : List ℕ) (v : Arms.Value) → Arms.Der i o v → (p : Parts) × IsDerElement o p
    tagged_element i o (inl v) d = element o v d.1
    tagged_element i o (inr v) d = m.der_element i o v d.1

    tagged_der : (i : Identifier) (o : List ℕ) (v : Arms.Value) → Arms.Der i o v → has_a_tag Arms.tags i ≡ true
    tagged_der i o (inl v) d = tag_of_first tags H.tags i d.0
    tagged_der i o (inr v) d = tag_of_other tags H.tags i (m.der_tagged i o v d.1)

    tagged_body : (p : Parts) (v : Arms.Value) → Arms.Body p v → has_a_tag Arms.tags p.id ≡ true
    tagged_body p (inl v) b = tag_of_first tags H.tags p.id b.0
    tagged_body p (inr v) b = tag_of_other tags H.tags p.id (m.body_tagged p v b.1)

    -- So of a choice before others.
    pub or_choice_tagged : AreTagged Arms
    or_choice_tagged = record {
      der_element = tagged_element;
      der_tagged = tagged_der;
      body_tagged = tagged_body;
      check_tagged = λ p c. check_either (has_a_tag tags p.id) (has_a_tag H.tags p.id) (has_a_tag Arms.tags p.id)
          (G.Check p) (H.Check p) (tag_of_first tags H.tags p.id) (tag_of_other tags H.tags p.id) (m.check_tagged p) c;
    }

  -- a refusal that is final for the choice whose tag it is, or for the others
  final_this : (i : Identifier) (is_truncated : Type 0) (r : Refusal Error) (input : List ℕ) → has_a_tag tags i ≡ true →
      IsFinal is_truncated r G.Der input → IsFinal is_truncated r (Arms.Der i) input
  final_this i is_truncated r input t n more s w rest (inl v) e d = n more s w rest v e d.1
  final_this i is_truncated r input t n more s w rest (inr v) e d = clash (has_a_tag tags i) t d.0

  final_other : (i : Identifier) (is_truncated : Type 0) (r : Refusal Error) (input : List ℕ) →
      has_a_tag tags i ≡ false → IsFinal is_truncated r (H.Der i) input → IsFinal is_truncated r (Arms.Der i) input
  final_other i is_truncated r input t n more s w rest (inl v) e d = clash (has_a_tag tags i) d.0 t
  final_other i is_truncated r input t n more s w rest (inr v) e d = n more s w rest v e d.1

  module _ (reads : List ℕ → Result (List ℕ × A) (Refusal Error) → Type 0)
      (others : Identifier → List ℕ → Result (List ℕ × B) (Refusal Error) → Type 0) where
    module _ (exact : (input : List ℕ) (answer : Result (List ℕ × A) (Refusal Error)) → IsOctets input →
        reads input answer →
        Exactly IsTruncatedIdentifier G.Der G.value (TellsMemory G.allocates (λ (e f : Error). f ≡ e)) input answer)
        (exact_others : (i : Identifier) (input : List ℕ) (answer : Result (List ℕ × B) (Refusal Error)) →
        IsOctets input → others i input answer →
        Exactly IsTruncatedIdentifier (H.Der i) H.value (TellsMemory H.allocates (λ (e f : Error). f ≡ e)) input answer) where
      -- Readers that are exact are so together.
      pub reads_exact : (i : Identifier) (input : List ℕ)
          (answer : Result (List ℕ × OrChoice A B) (Refusal Error)) → IsOctets input →
          OrChoiceReads (has_a_tag tags i) reads (others i) input answer →
          Exactly IsTruncatedIdentifier (Arms.Der i) Arms.value (TellsMemory Arms.allocates (λ (e f : Error). f ≡ e)) input
          answer
      reads_exact i input (Ok (rest, part.This x)) k g =
          let f = exact input (Ok (rest, x)) k g.1 in
          record { word = f.word; fits = (g.0, f.fits); is = f.is }
      reads_exact i input (Ok (rest, part.Other y)) k g =
          let f = exact_others i input (Ok (rest, y)) k g.1 in
          record { word = f.word; fits = (g.0, f.fits); is = f.is }
      reads_exact i input (Err r) k (inl g) = elim (exact input (Err r) k g.1) [
        | inl m ↦ inl (or_first G.allocates H.allocates m.0, m.1)
        | inr n ↦ inr (final_this i (IsTruncatedIdentifier input) r input g.0 n)
      ]
      reads_exact i input (Err r) k (inr g) = elim (exact_others i input (Err r) k g.1) [
        | inl m ↦ inl (or_second G.allocates H.allocates m.0, m.1)
        | inr n ↦ inr (final_other i (IsTruncatedIdentifier input) r input g.0 n)
      ]

    -- What is so of each refusal of both is so of each of theirs.
    pub reads_never_oom : (P : Refusal Error → Type 0) →
        ((input : List ℕ) (answer : Result (List ℕ × A) (Refusal Error)) → reads input answer → IfErr answer P) →
        ((i : Identifier) (input : List ℕ) (answer : Result (List ℕ × B) (Refusal Error)) → others i input answer →
        IfErr answer P) →
        (i : Identifier) (input : List ℕ) (answer : Result (List ℕ × OrChoice A B) (Refusal Error)) →
        OrChoiceReads (has_a_tag tags i) reads (others i) input answer → IfErr answer P
    reads_never_oom P first behind i input (Ok x) g = tt
    reads_never_oom P first behind i input (Err r) (inl g) = first input (Err r) g.1
    reads_never_oom P first behind i input (Err r) (inr g) = behind i input (Err r) g.1

    -- What is of no arm is refused at their end.
    pub reads_other : ((i : Identifier) (input : List ℕ) (answer : Result (List ℕ × B) (Refusal Error)) →
        has_a_tag H.tags i ≡ false → others i input answer → IsNoArm refused i.number answer) →
        (i : Identifier) (input : List ℕ) (answer : Result (List ℕ × OrChoice A B) (Refusal Error)) →
        has_a_tag Arms.tags i ≡ false → OrChoiceReads (has_a_tag tags i) reads (others i) input answer →
        IsNoArm refused i.number answer
    reads_other behind i input (Ok (rest, part.This x)) none g =
        absurd (clash (has_a_tag tags i) g.0 (neither_tag tags H.tags i none).0)
    reads_other behind i input (Ok (rest, part.Other y)) none g =
        let e = behind i input (Ok (rest, y)) (neither_tag tags H.tags i none).1 g.1 in
        absurd (cc)
    reads_other behind i input (Err r) none (inl g) =
        absurd (clash (has_a_tag tags i) g.0 (neither_tag tags H.tags i none).0)
    reads_other behind i input (Err r) none (inr g) =
        let e = behind i input (Err r) (neither_tag tags H.tags i none).1 g.1 in
        let is : r ≡ refused (UnexpectedTag None (record { 0 = i.number })) = cc in
        ap Err is

  module _ (gives : Any → Result A Error → Type 0) (others : Any → Result B Error → Type 0) where
    body_this : (any : Any) → has_a_tag tags (parts_of any).id ≡ true →
        ((v : G.Value) → G.Body (parts_of any) v → ⊥) → (v : Arms.Value) → Arms.Body (parts_of any) v → ⊥
    body_this any t n (inl v) b = n v b.1
    body_this any t n (inr v) b = clash (has_a_tag tags (parts_of any).id) t b.0

    body_other : (any : Any) → has_a_tag tags (parts_of any).id ≡ false →
        ((v : H.Value) → H.Body (parts_of any) v → ⊥) → (v : Arms.Value) → Arms.Body (parts_of any) v → ⊥
    body_other any t n (inl v) b = clash (has_a_tag tags (parts_of any).id) b.0 t
    body_other any t n (inr v) b = n v b.1

    -- Conversions that are exact are so together.
    pub takes_exact : ((any : Any) (answer : Result A Error) → IsOctets any.content.now → gives any answer →
        TakesBody G.Body G.value G.allocates (λ (e f : Error). f ≡ e) (parts_of any) answer) →
        ((any : Any) (answer : Result B Error) → IsOctets any.content.now → others any answer →
        TakesBody H.Body H.value H.allocates (λ (e f : Error). f ≡ e) (parts_of any) answer) →
        (any : Any) (answer : Result (OrChoice A B) Error) → IsOctets any.content.now →
        OrChoiceGives (has_a_tag tags (parts_of any).id) (gives any) (others any) answer →
        TakesBody Arms.Body Arms.value Arms.allocates (λ (e f : Error). f ≡ e) (parts_of any) answer
    takes_exact first behind any (Ok (part.This x)) k g = (g.0, first any (Ok x) k g.1)
    takes_exact first behind any (Ok (part.Other y)) k g = (g.0, behind any (Ok y) k g.1)
    takes_exact first behind any (Err e) k (inl g) = elim (first any (Err e) k g.1) [
      | inl m ↦ inl (or_first G.allocates H.allocates m.0, m.1)
      | inr n ↦ inr (body_this any g.0 n)
    ]
    takes_exact first behind any (Err e) k (inr g) = elim (behind any (Err e) k g.1) [
      | inl m ↦ inl (or_second G.allocates H.allocates m.0, m.1)
      | inr n ↦ inr (body_other any g.0 n)
    ]

    pub takes_never_oom : (P : Error → Type 0) →
        ((any : Any) (e : Error) → gives any (Err e) → P e) → ((any : Any) (e : Error) → others any (Err e) → P e) →
        (any : Any) (e : Error) →
        OrChoiceGives (has_a_tag tags (parts_of any).id) (gives any) (others any) (Err e) → P e
    takes_never_oom P first behind any e (inl g) = first any e g.1
    takes_never_oom P first behind any e (inr g) = behind any e g.1

    pub takes_other : ((any : Any) (answer : Result B Error) → has_a_tag H.tags (parts_of any).id ≡ false →
        others any answer → IsNoArm (λ (e : Error). e) (parts_of any).id.number answer) →
        (any : Any) (answer : Result (OrChoice A B) Error) → has_a_tag Arms.tags (parts_of any).id ≡ false →
        OrChoiceGives (has_a_tag tags (parts_of any).id) (gives any) (others any) answer →
        IsNoArm (λ (e : Error). e) (parts_of any).id.number answer
    takes_other behind any (Ok (part.This x)) none g =
        absurd (clash (has_a_tag tags (parts_of any).id) g.0 (neither_tag tags H.tags (parts_of any).id none).0)
    takes_other behind any (Ok (part.Other y)) none g =
        let e = behind any (Ok y) (neither_tag tags H.tags (parts_of any).id none).1 g.1 in
        absurd (cc)
    takes_other behind any (Err e) none (inl g) =
        absurd (clash (has_a_tag tags (parts_of any).id) g.0 (neither_tag tags H.tags (parts_of any).id none).0)
    takes_other behind any (Err e) none (inr g) =
        let t = behind any (Err e) (neither_tag tags H.tags (parts_of any).id none).1 g.1 in
        let is : e ≡ UnexpectedTag None (record { 0 = (parts_of any).id.number }) = cc in
        ap Err is

  -- Checks that are exact are so together.
  module _ (first others : CheckGives) (f : IsExactCheck first G.Check) (o : IsExactCheck others H.Check) where
    passes : (b : Bool) (p : Parts) → CheckByTag b (first p (Ok tt)) (others p (Ok tt)) →
        CheckByTag b (G.Check p) (H.Check p)
    passes true p g = f.exact p (Ok tt) g
    passes false p g = o.exact p (Ok tt) g

    refuses : (b : Bool) (p : Parts) (e : Error) → CheckByTag b (first p (Err e)) (others p (Err e)) →
        CheckByTag b (G.Check p) (H.Check p) → ⊥
    refuses true p e g = f.exact p (Err e) g
    refuses false p e g = o.exact p (Err e) g

    never_memory : (b : Bool) (p : Parts) → CheckByTag b (first p (Err OutOfMemory)) (others p (Err OutOfMemory)) → ⊥
    never_memory true p g = f.asks_no_memory p g
    never_memory false p g = o.asks_no_memory p g

    exactly : (p : Parts) (answer : Result (Unit {0}) Error) → OrChoiceChecks tags first others p answer →
        Checks Arms.Check p answer
    exactly p (Ok tt) g = passes (has_a_tag tags p.id) p g
    exactly p (Err e) g = refuses (has_a_tag tags p.id) p e g

    pub checks_exact : IsExactCheck (OrChoiceChecks tags first others) Arms.Check
    checks_exact = record { exact = exactly; asks_no_memory = λ p g. never_memory (has_a_tag tags p.id) p g }
