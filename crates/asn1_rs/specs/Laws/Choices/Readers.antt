-- Readers of arms and of choices are exact.
use Rattle.std.proofs.Common.{◌≡◌, ◌≢◌, ◌∙◌, ap, sym, subst, refl, ℕ, inl, inr, Bool, true, false, List, []}
use Rattle.std.proofs.Common.{append-nil, Result, Ok, Err}
use Rattle.std.specs.Prelude.{◌||◌, IfErr, None}
use Rattle.x690.specs.Octets.{IsOctets}
use Rattle.x690.specs.Identifiers.{Identifier, IsTruncatedIdentifier}
use Rattle.x690.specs.Elements.{Parts, IsDerElement}
use Rattle.x690.specs.Faults.{DerElementFault}
use Rattle.asn1_headers.specs.Answers.{HasPrefix, Exactly, TellsMemory, IsOther, IsFinal}
use Rattle.asn1_headers.specs.Error.{ErrorIs, Converted}
use Rattle.asn1_headers.specs.Header.Reading.{der_violation, refusal_of}
use Rattle.asn1_headers.specs.declared.error.Err.{Err as Refusal}
use Rattle.asn1_headers.specs.declared.error.Err.TheVariants.{Error as refused}
use Rattle.asn1_headers.specs.declared.error.Error.{Error}
use Rattle.asn1_headers.specs.declared.error.Error.TheVariants.{UnexpectedTag, OutOfMemory}
use Rattle.asn1_rs.specs.declared.asn1_types.any.Any.{Any}
use Rattle.asn1_rs.specs.declared.choices.arms.Never.{Never}
use Rattle.asn1_rs.specs.declared.choices.arms.Or.{Or}
use Rattle.asn1_rs.specs.declared.choices.arms.Or.TheVariants as arm
use Rattle.asn1_rs.specs.Any.{parts_of}
use Rattle.asn1_rs.specs.Checks.{CheckGives}
use Rattle.asn1_rs.specs.Grammar.{TakesBody, Checks}
use Rattle.asn1_rs.specs.Grammar.Item.{ItemGrammar, IsLawfulItem}
use Rattle.asn1_rs.specs.Kinds.{IsExactCheck}
use Rattle.asn1_rs.specs.Laws.Any.{refusal_lasts, element_lasts}
use Rattle.asn1_rs.specs.Laws.Readers.{der_elements, der_violation_no_memory, fault_no_memory, converts_itself}
use Rattle.asn1_rs.specs.Laws.Readers.{refusal_speaks_now}
use Rattle.asn1_rs.specs.Laws.Structs.Rows.{or_neither}
use Rattle.asn1_rs.specs.Laws.Choices.{clash, or_first, or_second, has_class_of}
use Rattle.asn1_rs.specs.Choices.{ArmsGrammar, CheckByTag, is_of_tag, has_a_tag, has_a_class, no_arms, or_arms}
use Rattle.asn1_rs.specs.Choices.{choice_grammar, OrReads, OrGives, OrChecks, IsNoArm, NoArmRefusal, KnowsClass}
use Rattle.asn1_rs.specs.Choices.{ChoiceReads, ChoiceGives}
use Rattle.asn1_rs.specs.Choices.Data.{AnswersByDer, AnswersOf, ChecksOf}

-- the error of a refusal is itself
abbrev Same : Error → Error → Type 0
Same e f = f ≡ e

-- What the laws of readers ask of arms: a word by DER is an element, and words and bodies have the tag of an arm.
pub record AreTagged {S : Type 0} (G : ArmsGrammar S) : Type 0 where
  pub der_element : (i : Identifier) (o : List ℕ) (v : G.Value) → G.Der i o v → (p : Parts) × IsDerElement o p
  pub der_tagged : (i : Identifier) (o : List ℕ) (v : G.Value) → G.Der i o v → has_a_tag G.tags i ≡ true
  pub body_tagged : (p : Parts) (v : G.Value) → G.Body p v → has_a_tag G.tags p.id ≡ true
  pub check_tagged : (p : Parts) → G.Check p → has_a_tag G.tags p.id ≡ true

pub none_tagged : AreTagged no_arms
none_tagged = record {
  der_element = λ i o v d. absurd v;
  der_tagged = λ i o v d. absurd v;
  body_tagged = λ p v b. absurd v;
  check_tagged = λ p c. absurd c;
}

-- what is asked where the tag is that of neither
check_either : (b c : Bool) (P Q : Type 0) → (Q → c ≡ true) → CheckByTag b P Q → (b || c) ≡ true
check_either true c P Q h p = refl
check_either false c P Q h q = h q

module _ {A B : Type 0} (class number : ℕ) (G : ItemGrammar A) (H : ArmsGrammar B) where
  -- the two together
  abbrev Arms : ArmsGrammar (Or A B class)
  Arms = or_arms class number G H

  module _ (l : IsLawfulItem G) (m : AreTagged H) where
    tagged_element : (i : Identifier) (o : List ℕ) (v : Arms.Value) → Arms.Der i o v → (p : Parts) × IsDerElement o p
    tagged_element i o (inl v) d = l.der_element o v d.1
    tagged_element i o (inr v) d = m.der_element i o v d.1

    tagged_der : (i : Identifier) (o : List ℕ) (v : Arms.Value) → Arms.Der i o v → has_a_tag Arms.tags i ≡ true
    tagged_der i o (inl v) d = or_first (is_of_tag class number i) (has_a_tag H.tags i) d.0
    tagged_der i o (inr v) d = or_second (is_of_tag class number i) (has_a_tag H.tags i) (m.der_tagged i o v d.1)

    tagged_body : (p : Parts) (v : Arms.Value) → Arms.Body p v → has_a_tag Arms.tags p.id ≡ true
    tagged_body p (inl v) b = or_first (is_of_tag class number p.id) (has_a_tag H.tags p.id) b.0
    tagged_body p (inr v) b =
        or_second (is_of_tag class number p.id) (has_a_tag H.tags p.id) (m.body_tagged p v b.1)

    -- So of a lawful type before others.
    pub or_tagged : AreTagged Arms
    or_tagged = record {
      der_element = tagged_element;
      der_tagged = tagged_der;
      body_tagged = tagged_body;
      check_tagged = λ p c. check_either (is_of_tag class number p.id) (has_a_tag H.tags p.id) (G.Check p) (H.Check p)
          (m.check_tagged p) c;
    }

  -- a refusal that is final for the arm whose tag it is
  final_this : (i : Identifier) (is_truncated : Type 0) (r : Refusal Error) (input : List ℕ) →
      is_of_tag class number i ≡ true →
      IsFinal is_truncated r G.Der input → IsFinal is_truncated r (Arms.Der i) input
  final_this i is_truncated r input t n more s w rest (inl v) e d = n more s w rest v e d.1
  final_this i is_truncated r input t n more s w rest (inr v) e d = clash (is_of_tag class number i) t d.0

  final_other : (i : Identifier) (is_truncated : Type 0) (r : Refusal Error) (input : List ℕ) →
      is_of_tag class number i ≡ false → IsFinal is_truncated r (H.Der i) input →
      IsFinal is_truncated r (Arms.Der i) input
  final_other i is_truncated r input t n more s w rest (inl v) e d = clash (is_of_tag class number i) d.0 t
  final_other i is_truncated r input t n more s w rest (inr v) e d = n more s w rest v e d.1

  module _ (reads : List ℕ → Result (List ℕ × A) (Refusal Error) → Type 0)
      (others : Identifier → List ℕ → Result (List ℕ × B) (Refusal Error) → Type 0) where
    module _ (exact : (input : List ℕ) (answer : Result (List ℕ × A) (Refusal Error)) → IsOctets input →
        reads input answer →
        Exactly IsTruncatedIdentifier G.Der G.value (TellsMemory G.allocates (λ (e f : Error). f ≡ e)) input answer)
        (exact_others : (i : Identifier) (input : List ℕ) (answer : Result (List ℕ × B) (Refusal Error)) →
        IsOctets input → others i input answer →
        Exactly IsTruncatedIdentifier (H.Der i) H.value (TellsMemory H.allocates (λ (e f : Error). f ≡ e)) input answer) where
      -- Readers of arms that are exact are so together.
      pub or_reads_exact : (i : Identifier) (input : List ℕ)
          (answer : Result (List ℕ × Or A B class) (Refusal Error)) → IsOctets input →
          OrReads (is_of_tag class number i) reads (others i) input answer →
          Exactly IsTruncatedIdentifier (Arms.Der i) Arms.value (TellsMemory Arms.allocates (λ (e f : Error). f ≡ e)) input
          answer
      or_reads_exact i input (Ok (rest, arm.This x)) k g =
          let f = exact input (Ok (rest, x)) k g.1 in
          record { word = f.word; fits = (g.0, f.fits); is = f.is }
      or_reads_exact i input (Ok (rest, arm.Other y)) k g =
          let f = exact_others i input (Ok (rest, y)) k g.1 in
          record { word = f.word; fits = (g.0, f.fits); is = f.is }
      or_reads_exact i input (Err r) k (inl g) = elim (exact input (Err r) k g.1) [
        | inl m ↦ inl (or_first G.allocates H.allocates m.0, m.1)
        | inr n ↦ inr (final_this i (IsTruncatedIdentifier input) r input g.0 n)
      ]
      or_reads_exact i input (Err r) k (inr g) = elim (exact_others i input (Err r) k g.1) [
        | inl m ↦ inl (or_second G.allocates H.allocates m.0, m.1)
        | inr n ↦ inr (final_other i (IsTruncatedIdentifier input) r input g.0 n)
      ]

    -- What is so of each refusal of both is so of each of theirs.
    pub or_reads_never_oom : (P : Refusal Error → Type 0) →
        ((input : List ℕ) (answer : Result (List ℕ × A) (Refusal Error)) → reads input answer → IfErr answer P) →
        ((i : Identifier) (input : List ℕ) (answer : Result (List ℕ × B) (Refusal Error)) → others i input answer →
        IfErr answer P) →
        (i : Identifier) (input : List ℕ) (answer : Result (List ℕ × Or A B class) (Refusal Error)) →
        OrReads (is_of_tag class number i) reads (others i) input answer → IfErr answer P
    or_reads_never_oom P first behind i input (Ok x) g = tt
    or_reads_never_oom P first behind i input (Err r) (inl g) = first input (Err r) g.1
    or_reads_never_oom P first behind i input (Err r) (inr g) = behind i input (Err r) g.1

    -- What is of no arm is refused at their end.
    pub or_reads_other : ((i : Identifier) (input : List ℕ) (answer : Result (List ℕ × B) (Refusal Error)) →
        has_a_tag H.tags i ≡ false → others i input answer → IsNoArm refused i.number answer) →
        (i : Identifier) (input : List ℕ) (answer : Result (List ℕ × Or A B class) (Refusal Error)) →
        has_a_tag Arms.tags i ≡ false → OrReads (is_of_tag class number i) reads (others i) input answer →
        IsNoArm refused i.number answer
    or_reads_other behind i input (Ok (rest, arm.This x)) none g =
        absurd (clash (is_of_tag class number i) g.0
        (or_neither (is_of_tag class number i) (has_a_tag H.tags i) none).0)
    or_reads_other behind i input (Ok (rest, arm.Other y)) none g =
        let e = behind i input (Ok (rest, y)) (or_neither (is_of_tag class number i) (has_a_tag H.tags i) none).1 g.1 in
        absurd (cc)
    or_reads_other behind i input (Err r) none (inl g) =
        absurd (clash (is_of_tag class number i) g.0
        (or_neither (is_of_tag class number i) (has_a_tag H.tags i) none).0)
    or_reads_other behind i input (Err r) none (inr g) =
        let e = behind i input (Err r) (or_neither (is_of_tag class number i) (has_a_tag H.tags i) none).1 g.1 in
        let is : r ≡ refused (UnexpectedTag None (record { 0 = i.number })) = cc in
        ap Err is

  module _ (gives : Any → Result A Error → Type 0) (others : Any → Result B Error → Type 0) where
    -- Conversions that are exact are so together.
    pub or_takes : ((any : Any) (answer : Result A Error) → IsOctets any.content.now → gives any answer →
        TakesBody G.Body G.value G.allocates (λ (e f : Error). f ≡ e) (parts_of any) answer) →
        ((any : Any) (answer : Result B Error) → IsOctets any.content.now → others any answer →
        TakesBody H.Body H.value H.allocates (λ (e f : Error). f ≡ e) (parts_of any) answer) →
        (any : Any) (answer : Result (Or A B class) Error) → IsOctets any.content.now →
        OrGives (is_of_tag class number (parts_of any).id) (gives any) (others any) answer →
        TakesBody Arms.Body Arms.value Arms.allocates (λ (e f : Error). f ≡ e) (parts_of any) answer
    or_takes first behind any (Ok (arm.This x)) k g = (g.0, first any (Ok x) k g.1)
    or_takes first behind any (Ok (arm.Other y)) k g = (g.0, behind any (Ok y) k g.1)
    or_takes first behind any (Err e) k (inl g) = elim (first any (Err e) k g.1) [
      | inl m ↦ inl (or_first G.allocates H.allocates m.0, m.1)
      | inr n ↦ inr (body_this any g.0 n)
    ]
      where
        body_this : (any : Any) → is_of_tag class number (parts_of any).id ≡ true →
            ((v : G.Value) → G.Body (parts_of any) v → ⊥) → (v : Arms.Value) → Arms.Body (parts_of any) v → ⊥
        body_this any t n (inl v) b = n v b.1
        body_this any t n (inr v) b = clash (is_of_tag class number (parts_of any).id) t b.0
    or_takes first behind any (Err e) k (inr g) = elim (behind any (Err e) k g.1) [
      | inl m ↦ inl (or_second G.allocates H.allocates m.0, m.1)
      | inr n ↦ inr (body_other any g.0 n)
    ]
      where
        body_other : (any : Any) → is_of_tag class number (parts_of any).id ≡ false →
            ((v : H.Value) → H.Body (parts_of any) v → ⊥) → (v : Arms.Value) → Arms.Body (parts_of any) v → ⊥
        body_other any t n (inl v) b = clash (is_of_tag class number (parts_of any).id) b.0 t
        body_other any t n (inr v) b = n v b.1

    pub or_takes_never_oom : (P : Error → Type 0) →
        ((any : Any) (e : Error) → gives any (Err e) → P e) → ((any : Any) (e : Error) → others any (Err e) → P e) →
        (any : Any) (e : Error) →
        OrGives {class = class} (is_of_tag class number (parts_of any).id) (gives any) (others any) (Err e) → P e
    or_takes_never_oom P first behind any e (inl g) = first any e g.1
    or_takes_never_oom P first behind any e (inr g) = behind any e g.1

    pub or_takes_other : ((any : Any) (answer : Result B Error) → has_a_tag H.tags (parts_of any).id ≡ false →
        others any answer → IsNoArm (λ (e : Error). e) (parts_of any).id.number answer) →
        (any : Any) (answer : Result (Or A B class) Error) → has_a_tag Arms.tags (parts_of any).id ≡ false →
        OrGives (is_of_tag class number (parts_of any).id) (gives any) (others any) answer →
        IsNoArm (λ (e : Error). e) (parts_of any).id.number answer
    or_takes_other behind any (Ok (arm.This x)) none g = absurd (clash (is_of_tag class number (parts_of any).id) g.0
        (or_neither (is_of_tag class number (parts_of any).id) (has_a_tag H.tags (parts_of any).id) none).0)
    or_takes_other behind any (Ok (arm.Other y)) none g =
        let e = behind any (Ok y)
        (or_neither (is_of_tag class number (parts_of any).id) (has_a_tag H.tags (parts_of any).id) none).1 g.1 in
        absurd (cc)
    or_takes_other behind any (Err e) none (inl g) = absurd (clash (is_of_tag class number (parts_of any).id) g.0
        (or_neither (is_of_tag class number (parts_of any).id) (has_a_tag H.tags (parts_of any).id) none).0)
    or_takes_other behind any (Err e) none (inr g) =
        let t = behind any (Err e)
        (or_neither (is_of_tag class number (parts_of any).id) (has_a_tag H.tags (parts_of any).id) none).1 g.1 in
        let is : e ≡ UnexpectedTag None (record { 0 = (parts_of any).id.number }) = cc in
        ap Err is

  -- Checks that are exact are so together.
  module _ (first others : CheckGives) (f : IsExactCheck first G.Check) (o : IsExactCheck others H.Check) where
    passes : (b : Bool) (p : Parts) → CheckByTag b (first p (Ok tt)) (others p (Ok tt)) →
        CheckByTag b (G.Check p) (H.Check p)
    passes true p g = f.exact p (Ok tt) g
    passes false p g = o.exact p (Ok tt) g

    refuses : (b : Bool) (p : Parts) (e : Error) → CheckByTag b (first p (Err e)) (others p (Err e)) →
        CheckByTag b (G.Check p) (H.Check p) → ⊥
    refuses true p e g = f.exact p (Err e) g
    refuses false p e g = o.exact p (Err e) g

    never_memory : (b : Bool) (p : Parts) → CheckByTag b (first p (Err OutOfMemory)) (others p (Err OutOfMemory)) → ⊥
    never_memory true p g = f.asks_no_memory p g
    never_memory false p g = o.asks_no_memory p g

    exactly : (p : Parts) (answer : Result (Unit {0}) Error) → OrChecks class number first others p answer →
        Checks Arms.Check p answer
    exactly p (Ok tt) g = passes (is_of_tag class number p.id) p g
    exactly p (Err e) g = refuses (is_of_tag class number p.id) p e g

    pub or_checks : IsExactCheck (OrChecks class number first others) Arms.Check
    or_checks = record { exact = exactly; asks_no_memory = λ p g. never_memory (is_of_tag class number p.id) p g }

-- a refusal of another cause than memory is none of memory, and the other way round
pub not_memory : (e : Error) → IsOther (λ (x y : Error). y ≡ x) e → e ≢ OutOfMemory
not_memory e (inl (f, other, is)) q = other (sym is ∙ q)
not_memory e (inr other) q = other q

pub of_another : (e : Error) → e ≢ OutOfMemory → IsOther (λ (x y : Error). y ≡ x) e
of_another e other = inl (e, other, refl)

-- At the end of the arms nothing is read.

pub none_reads : (i : Identifier) (input : List ℕ) (answer : Result (List ℕ × Never) (Refusal Error)) → IsOctets input →
    IsNoArm refused i.number answer →
    Exactly IsTruncatedIdentifier (no_arms.Der i) no_arms.value (TellsMemory no_arms.allocates (λ (e f : Error). f ≡ e)) input
    answer
none_reads i input answer k e =
    subst (Exactly IsTruncatedIdentifier (no_arms.Der i) no_arms.value (TellsMemory false (λ (e f : Error). f ≡ e)) input)
    (sym e) (inr (λ more s w rest v h d. v))

pub none_reads_never_oom : (n : ℕ) (answer : Result (List ℕ × Never) (Refusal Error)) → IsNoArm refused n answer →
    IfErr answer (ErrorIs (IsOther (λ (e f : Error). f ≡ e)))
none_reads_never_oom n answer e = subst (λ (a : Result (List ℕ × Never) (Refusal Error)).
    IfErr a (ErrorIs (IsOther (λ (e f : Error). f ≡ e)))) (sym e)
    (inl (UnexpectedTag None (record { 0 = n }), λ q. cc, refl))

pub none_takes : (any : Any) (answer : Result Never Error) → IsOctets any.content.now →
    IsNoArm (λ (e : Error). e) (parts_of any).id.number answer →
    TakesBody no_arms.Body no_arms.value no_arms.allocates (λ (e f : Error). f ≡ e) (parts_of any) answer
none_takes any answer k e =
    subst (TakesBody no_arms.Body no_arms.value false (λ (e f : Error). f ≡ e) (parts_of any)) (sym e) (inr (λ v b. v))

pub none_takes_never_oom : (any : Any) (e : Error) → IsNoArm {T = Never} (λ (e : Error). e) (parts_of any).id.number (Err e) →
    e ≢ OutOfMemory
none_takes_never_oom any e is q = cc

-- the check refuses each element
abbrev pub NoArmChecks : CheckGives
NoArmChecks p answer = IsNoArm (λ (e : Error). e) p.id.number answer

pub none_checks : IsExactCheck NoArmChecks no_arms.Check
none_checks = record { exact = exact; asks_no_memory = λ p g. cc }
  where
    exact : (p : Parts) (answer : Result (Unit {0}) Error) → NoArmChecks p answer → Checks no_arms.Check p answer
    exact p (Ok x) g = absurd (cc)
    exact p (Err e) g = λ c. c

-- Choices.

module _ {S T : Type 0} (as_arms : T → S) (G : ArmsGrammar S) (m : AreTagged G) where
  -- the choice
  abbrev Choice : ItemGrammar T
  Choice = choice_grammar as_arms G

  -- what has the tag of an arm has its class
  no_class : (i : Identifier) → has_a_class G.tags i.class ≡ false → has_a_tag G.tags i ≡ true → ⊥
  no_class i none tag = clash (has_a_class G.tags i.class) (has_class_of G.tags i tag) none

  class_refusal : (p : Parts) (e : Error) → KnowsClass G.tags p (Err e) → e ≢ OutOfMemory
  class_refusal p e c q = let t = c.1.2 in cc

  module _ (reads : Identifier → List ℕ → Result (List ℕ × S) (Refusal Error) → Type 0)
      (exact : (i : Identifier) (input : List ℕ) (answer : Result (List ℕ × S) (Refusal Error)) → IsOctets input →
      reads i input answer →
      Exactly IsTruncatedIdentifier (G.Der i) G.value (TellsMemory G.allocates (λ (e f : Error). f ≡ e)) input answer)
      (never_oom : G.allocates ≡ false → (i : Identifier) (input : List ℕ)
      (answer : Result (List ℕ × S) (Refusal Error)) → reads i input answer →
      IfErr answer (ErrorIs (IsOther (λ (e f : Error). f ≡ e))))
      (other : (i : Identifier) (input : List ℕ) (answer : Result (List ℕ × S) (Refusal Error)) →
      has_a_tag G.tags i ≡ false → reads i input answer → IsNoArm refused i.number answer) where
    read_exact : (input : List ℕ) (answer : Result (List ℕ × T) (Refusal Error)) → IsOctets input →
        ChoiceReads G.tags as_arms reads input answer →
        Exactly IsTruncatedIdentifier Choice.Der Choice.value (TellsMemory G.allocates (λ (e f : Error). f ≡ e)) input answer
    read_exact input (Ok (rest, x)) k (any, behind, begins, g) =
        let f : HasPrefix (G.Der (parts_of any).id) input (G.value (as_arms x)) rest =
        exact (parts_of any).id input (Ok (rest, as_arms x)) k g in
        let q : (p : Parts) × IsDerElement f.word p =
        m.der_element (parts_of any).id f.word (G.value (as_arms x)) f.fits in
        let same : (f.word ≡ begins.front.word) × (q.0 ≡ parts_of any) = der_elements.one.one f.word begins.front.word
        rest behind q.0 (parts_of any) q.1 begins.front.fits (sym f.is ∙ begins.front.is) in record {
          word = f.word;
          fits = (
            q.0,
            q.1,
            subst (λ (p : Parts). G.Der p.id f.word (G.value (as_arms x))) (sym same.1) f.fits,
          );
          is = f.is;
        }
    read_exact input (Err r) k (inl g) = inr (λ more s w rest v h d. refusal_lasts IsDerElement DerElementFault
        IsTruncatedIdentifier der_elements der_violation input r g more w rest d.0 s d.1 h)
    read_exact input (Err r) k (inr (any, behind, begins, inl (e, c, is))) = inr (λ more s w rest v h d.
        let same = element_lasts IsDerElement DerElementFault IsTruncatedIdentifier der_elements der_violation input
        (behind, any) begins more w rest d.0 d.1 h in
        no_class (parts_of any).id c.0
        (subst (λ (p : Parts). has_a_tag G.tags p.id ≡ true) same.0 (m.der_tagged d.0.id w v d.2)))
    read_exact input (Err r) k (inr (any, behind, begins, inr (c, g))) =
        elim (exact (parts_of any).id input (Err r) k g) [
          | inl t ↦ inl t
          | inr n ↦ inr (λ more s w rest v h d.
              let same = element_lasts IsDerElement DerElementFault IsTruncatedIdentifier der_elements der_violation input
              (behind, any) begins more w rest d.0 d.1 h in
              n more s w rest v h (subst (λ (p : Parts). G.Der p.id w v) same.0 d.2))
        ]

    read_never_oom : G.allocates ≡ false → (input : List ℕ) (answer : Result (List ℕ × T) (Refusal Error)) →
        ChoiceReads G.tags as_arms reads input answer → IfErr answer (ErrorIs (IsOther (λ (e f : Error). f ≡ e)))
    read_never_oom none input (Ok x) g = tt
    read_never_oom none input (Err r) (inl (fault, f, is)) =
        fault_no_memory (λ (e f : Error). f ≡ e) der_violation der_violation_no_memory fault r
        (subst (Converted (λ (e f : Error). f ≡ e) (refusal_of der_violation fault)) (sym is)
        (converts_itself der_violation fault))
    read_never_oom none input (Err r) (inr (any, behind, begins, inl (e, c, is))) =
        subst (ErrorIs (IsOther (λ (e f : Error). f ≡ e))) (sym is) (inl (e, class_refusal (parts_of any) e c, refl))
    read_never_oom none input (Err r) (inr (any, behind, begins, inr (c, g))) =
        never_oom none (parts_of any).id input (Err r) g

    read_other : (input : List ℕ) (answer : Result (List ℕ × T) (Refusal Error)) →
        ChoiceReads G.tags as_arms reads input answer → (p : Parts) (rest : List ℕ) →
        HasPrefix IsDerElement input p rest →
        has_a_tag G.tags p.id ≡ false → (e : Error) × NoArmRefusal G.tags p.id e × (answer ≡ Err (refused e))
    read_other input (Ok (left, x)) (any, behind, begins, g) p rest f none =
        let same = element_lasts IsDerElement DerElementFault IsTruncatedIdentifier der_elements der_violation input
        (behind, any) begins [] f.word rest p f.fits (append-nil input ∙ f.is) in
        let e = other (parts_of any).id input (Ok (left, as_arms x))
        (subst (λ (q : Parts). has_a_tag G.tags q.id ≡ false) same.0 none) g in
        absurd (cc)
    read_other input (Err r) (inl g) p rest f none = absurd (refusal_lasts IsDerElement DerElementFault IsTruncatedIdentifier
        der_elements der_violation input r g [] f.word rest p (refusal_speaks_now (IsTruncatedIdentifier input) r)
        f.fits
        (append-nil input ∙ f.is))
    read_other input (Err r) (inr (any, behind, begins, inl (e, c, is))) p rest f none =
        let same = element_lasts IsDerElement DerElementFault IsTruncatedIdentifier der_elements der_violation input
        (behind, any) begins [] f.word rest p f.fits (append-nil input ∙ f.is) in
        (e, subst (λ (q : Parts). NoArmRefusal G.tags q.id e) (sym same.0) (inl c), ap Err is)
    read_other input (Err r) (inr (any, behind, begins, inr (c, g))) p rest f none =
        let same = element_lasts IsDerElement DerElementFault IsTruncatedIdentifier der_elements der_violation input
        (behind, any) begins [] f.word rest p f.fits (append-nil input ∙ f.is) in
        let e = other (parts_of any).id input (Err r)
        (subst (λ (q : Parts). has_a_tag G.tags q.id ≡ false) same.0 none) g in
        let is : r ≡ refused (UnexpectedTag None (record { 0 = (parts_of any).id.number })) = cc in (
          UnexpectedTag None (record { 0 = (parts_of any).id.number }),
          subst (λ (q : Parts). NoArmRefusal G.tags q.id
              (UnexpectedTag None (record { 0 = (parts_of any).id.number }))) (sym same.0) (inr (c, refl)),
          ap Err is,
        )

    -- Reading a choice by DER is exact where reading its arms is.
    pub choice_reads : (input : List ℕ) (answer : Result (List ℕ × T) (Refusal Error)) →
        ChoiceReads G.tags as_arms reads input answer → AnswersByDer Choice G.tags input answer
    choice_reads input answer g = record {
      exact = λ k. read_exact input answer k g;
      no_memory = λ none. read_never_oom none input answer g;
      other = read_other input answer g;
    }

  module _ (gives : Any → Result S Error → Type 0)
      (exact : (any : Any) (answer : Result S Error) → IsOctets any.content.now → gives any answer →
      TakesBody G.Body G.value G.allocates (λ (e f : Error). f ≡ e) (parts_of any) answer)
      (never_oom : G.allocates ≡ false → (any : Any) (e : Error) → gives any (Err e) → e ≢ OutOfMemory)
      (other : (any : Any) (answer : Result S Error) → has_a_tag G.tags (parts_of any).id ≡ false → gives any answer →
      IsNoArm (λ (e : Error). e) (parts_of any).id.number answer) where
    take_exact : (any : Any) (answer : Result T Error) → IsOctets any.content.now →
        ChoiceGives G.tags as_arms gives any answer →
        TakesBody G.Body Choice.value G.allocates (λ (e f : Error). f ≡ e) (parts_of any) answer
    take_exact any (Ok x) k g = exact any (Ok (as_arms x)) k g
    take_exact any (Err e) k (inl c) = inr (λ v b. no_class (parts_of any).id c.0 (m.body_tagged (parts_of any) v b))
    take_exact any (Err e) k (inr (c, g)) = exact any (Err e) k g

    take_never_oom : G.allocates ≡ false → (any : Any) (answer : Result T Error) →
        ChoiceGives G.tags as_arms gives any answer → IfErr answer (λ e. e ≢ OutOfMemory)
    take_never_oom none any (Ok x) g = tt
    take_never_oom none any (Err e) (inl c) = class_refusal (parts_of any) e c
    take_never_oom none any (Err e) (inr (c, g)) = never_oom none any e g

    take_other : (any : Any) (answer : Result T Error) → ChoiceGives G.tags as_arms gives any answer →
        has_a_tag G.tags (parts_of any).id ≡ false →
        (e : Error) × NoArmRefusal G.tags (parts_of any).id e × (answer ≡ Err e)
    take_other any (Ok x) g none = let e = other any (Ok (as_arms x)) none g in absurd (cc)
    take_other any (Err e) (inl c) none = (e, inl c, refl)
    take_other any (Err e) (inr (c, g)) none =
        let t = other any (Err e) none g in
        let is : e ≡ UnexpectedTag None (record { 0 = (parts_of any).id.number }) = cc in
        (UnexpectedTag None (record { 0 = (parts_of any).id.number }), inr (c, refl), ap Err is)

    -- So is the conversion of an element to one.
    pub choice_gives : (any : Any) (answer : Result T Error) → ChoiceGives G.tags as_arms gives any answer →
        AnswersOf Choice G.tags any answer
    choice_gives any answer g = record {
      exact = λ k. take_exact any answer k g;
      no_memory = λ none. take_never_oom none any answer g;
      other = take_other any answer g;
    }

-- What checks exactly is an exact check.
pub choice_checks : (Check : Parts → Type 0) → IsExactCheck (ChecksOf Check) Check
choice_checks Check = record { exact = λ p answer g. g.exact; asks_no_memory = λ p g. g.no_memory refl }

-- so checks what is checked exactly
pub checks_of : (check : CheckGives) (Check : Parts → Type 0) → IsExactCheck check Check → (p : Parts)
    (answer : Result (Unit {0}) Error) → check p answer → ChecksOf Check p answer
checks_of check Check k p answer g = record { exact = k.exact p answer g; no_memory = never_oom answer g }
  where
    never_oom : (answer : Result (Unit {0}) Error) → check p answer → IfErr answer (λ e. e ≢ OutOfMemory)
    never_oom (Ok x) g = tt
    never_oom (Err e) g = λ q. k.asks_no_memory p (subst (λ (x : Error). check p (Err x)) q g)
