-- A choice and other arms that are told apart are lawful together.
pub mod Readers
use Rattle.std.proofs.Common.{◌≡◌, ◌≢◌, ◌∙◌, ap, sym, subst, refl, ℕ, ◌<◌, ◌^◌, inl, inr, ◌⊎◌, Bool, true, false, List}
use Rattle.std.proofs.Common.{[], ◌∷◌, ◌++◌, length}
use Rattle.std.specs.Prelude.{◌||◌, ◌&&◌, not, nat_eq}
use Rattle.std.proofs.lemmas.Bool.{eq-eqb, eqb-true}
use mathlib.Core.Sum.{⊎_set}
use Rattle.x690.specs.Identifiers.{Identifier}
use Rattle.x690.specs.Elements.{Parts, ArePossible, IsDerElement}
use Rattle.x690.specs.Joined.{IsPrefixFree}
use Rattle.asn1_rs.specs.Grammar.{IsOneBody, FormChecks, FormBodies, made}
use Rattle.asn1_rs.specs.Grammar.Form.{IsOneForm, IsOneValue, FitsElement, HasValues, IsStrict, header_of}
use Rattle.asn1_rs.specs.Grammar.Item.{ItemGrammar, IsLawfulItem}
use Rattle.asn1_rs.specs.Prelude.{has_a_class, has_a_tag, is_one_of}
use Rattle.asn1_rs.specs.Choices.{ArmsGrammar, ChosenArm, ByTag, CheckByTag, is_of_tag, is_tag_among}
use Rattle.asn1_rs.specs.Choices.{choice_grammar, arm_tells, arm_header, arm_content, arm_constructed}
use Rattle.asn1_rs.specs.Laws.Choices.{AreLawfulArms, AreLawfulPuts, HasArmValue, IsArmWritable, clash, class_by}
use Rattle.asn1_rs.specs.Laws.Choices.{first_of, second_of, or_first, or_second, or_either}
use Rattle.asn1_rs.specs.declared.choices.nested.OrChoice.{OrChoice}
use Rattle.asn1_rs.specs.declared.choices.nested.OrChoice.TheVariants as part
use Rattle.asn1_rs.specs.Choices.Nested.{no_tag_in_common, or_choice, or_choice_value, or_choice_chosen}

-- Tests of tags.

not_true : (b : Bool) → (b ≡ true → ⊥) → b ≡ false
not_true true h = absurd (h refl)
not_true false h = refl

not_so : (b : Bool) → not b ≡ true → b ≡ false
not_so true h = absurd (cc)
not_so false h = refl

both_hold : (a b : Bool) → a ≡ true → b ≡ true → (a && b) ≡ true
both_hold true b p q = q
both_hold false b p q = absurd (clash false p refl)

or_in_turn : (a b c : Bool) → (a || (b || c)) ≡ ((a || b) || c)
or_in_turn true b c = refl
or_in_turn false b c = refl

-- one of two lists of tags
pub either_tag : (tags others : List (ℕ × ℕ)) (i : Identifier) →
    has_a_tag (tags ++ others) i ≡ (has_a_tag tags i || has_a_tag others i)
either_tag [] others i = refl
either_tag (tag ∷ tags) others i = ap (λ (b : Bool). is_of_tag tag.0 tag.1 i || b) (either_tag tags others i) ∙
    or_in_turn (is_of_tag tag.0 tag.1 i) (has_a_tag tags i) (has_a_tag others i)

-- the class of one
pub either_class : (tags others : List (ℕ × ℕ)) (class : ℕ) →
    has_a_class (tags ++ others) class ≡ (has_a_class tags class || has_a_class others class)
either_class [] others class = refl
either_class (tag ∷ tags) others class =
    ap (λ (b : Bool). nat_eq class tag.0 || b) (either_class tags others class) ∙
    or_in_turn (nat_eq class tag.0) (has_a_class tags class) (has_a_class others class)

-- one of two lists of tag numbers
pub either_number : (numbers others : List ℕ) (n : ℕ) →
    is_one_of n (numbers ++ others) ≡ (is_one_of n numbers || is_one_of n others)
either_number [] others n = refl
either_number (number ∷ numbers) others n =
    ap (λ (b : Bool). nat_eq number n || b) (either_number numbers others n) ∙
    or_in_turn (nat_eq number n) (is_one_of n numbers) (is_one_of n others)

pub tag_of_first : (tags others : List (ℕ × ℕ)) (i : Identifier) → has_a_tag tags i ≡ true →
    has_a_tag (tags ++ others) i ≡ true
tag_of_first tags others i e =
    either_tag tags others i ∙ or_first (has_a_tag tags i) (has_a_tag others i) e

pub tag_of_other : (tags others : List (ℕ × ℕ)) (i : Identifier) → has_a_tag others i ≡ true →
    has_a_tag (tags ++ others) i ≡ true
tag_of_other tags others i e =
    either_tag tags others i ∙ or_second (has_a_tag tags i) (has_a_tag others i) e

number_by : (class number : ℕ) (i : Identifier) → is_of_tag class number i ≡ true → i.number ≡ number
number_by class number i e = eqb-true i.number number (second_of (nat_eq i.class class) (nat_eq i.number number) e)

-- what has one of the tags and has this one makes this one of them
among_them : (class number : ℕ) (tags : List (ℕ × ℕ)) (i : Identifier) → is_of_tag class number i ≡ true →
    has_a_tag tags i ≡ true → is_tag_among class number tags ≡ true
among_them class number [] i own e = absurd (clash true refl (sym e))
among_them class number (tag ∷ tags) i own e = elim (or_either (is_of_tag tag.0 tag.1 i) (has_a_tag tags i) e) [
  | inl first ↦ or_first (nat_eq class tag.0 && nat_eq number tag.1) (is_tag_among class number tags)
      (both_hold (nat_eq class tag.0) (nat_eq number tag.1)
      (eq-eqb class tag.0 (sym (class_by class number i own) ∙ class_by tag.0 tag.1 i first))
      (eq-eqb number tag.1 (sym (number_by class number i own) ∙ number_by tag.0 tag.1 i first)))
  | inr others ↦ or_second (nat_eq class tag.0 && nat_eq number tag.1) (is_tag_among class number tags)
      (among_them class number tags i own others)
]

-- an identifier has no tag of two lists that are apart
not_both : (tags others : List (ℕ × ℕ)) (i : Identifier) → no_tag_in_common tags others ≡ true →
    has_a_tag tags i ≡ true → has_a_tag others i ≡ true → ⊥
not_both [] others i apart e f = clash true refl (sym e)
not_both (tag ∷ tags) others i apart e f = elim (or_either (is_of_tag tag.0 tag.1 i) (has_a_tag tags i) e) [
  | inl first ↦ clash (is_tag_among tag.0 tag.1 others) (among_them tag.0 tag.1 others i first f)
      (not_so (is_tag_among tag.0 tag.1 others)
      (first_of (not (is_tag_among tag.0 tag.1 others)) (no_tag_in_common tags others) apart))
  | inr behind ↦ not_both tags others i
      (second_of (not (is_tag_among tag.0 tag.1 others)) (no_tag_in_common tags others) apart) behind f
]

-- Lawful arms.

-- what has a tag of the choice, or not, passes its check
check_this : (b : Bool) (P Q : Type 0) → b ≡ true → P → CheckByTag b P Q
check_this true P Q e p = p
check_this false P Q e p = absurd (clash false e refl)

check_other : (b : Bool) (P Q : Type 0) → b ≡ false → Q → CheckByTag b P Q
check_other true P Q e q = absurd (clash true refl e)
check_other false P Q e q = q

module _ {A B : Type 0} (tags : List (ℕ × ℕ)) (G : ItemGrammar A) (H : ArmsGrammar B) where
  -- the two together
  abbrev Arms : ArmsGrammar (OrChoice A B)
  Arms = or_choice tags G H

  -- words of one identifier, of which one alone begins an input
  both_one : (b : Bool) (P : List ℕ → G.Value → Type 0) (Q : List ℕ → H.Value → Type 0) → IsPrefixFree P → IsPrefixFree Q →
      IsPrefixFree (λ o. ByTag b (P o) (Q o))
  both_one b P Q p q = record { one = one; some = some }
    where
      one : (x y r s : List ℕ) (v w : G.Value ⊎ H.Value) → ByTag b (P x) (Q x) v → ByTag b (P y) (Q y) w →
          x ++ r ≡ y ++ s → (x ≡ y) × (v ≡ w)
      one x y r s (inl v) (inl w) a c e = let k = p.one x y r s v w a.1 c.1 e in (k.0, ap inl k.1)
      one x y r s (inl v) (inr w) a c e = absurd (clash b a.0 c.0)
      one x y r s (inr v) (inl w) a c e = absurd (clash b c.0 a.0)
      one x y r s (inr v) (inr w) a c e = let k = q.one x y r s v w a.1 c.1 e in (k.0, ap inr k.1)

      some : (v : G.Value ⊎ H.Value) → ByTag b (P []) (Q []) v → ⊥
      some (inl v) a = p.some v a.1
      some (inr v) a = q.some v a.1

  module _ (l : IsLawfulItem G)
      (own_tag : (v : G.Value) (i : Identifier) (c : List ℕ) → G.Form v i c → has_a_tag tags i ≡ true)
      (m : AreLawfulArms H) (apart : no_tag_in_common tags H.tags ≡ true) where
    -- the strict parts of the choice have one of its tags, and those of the others have not
    other_tag : (w : H.Value) (i : Identifier) (c : List ℕ) → H.Form w i c → has_a_tag tags i ≡ false
    other_tag w i c f = not_true (has_a_tag tags i) (λ e. not_both tags H.tags i apart e (m.tagged w i c f))

    der_are : (i : Identifier) (o : List ℕ) (v : Arms.Value) → Arms.Der i o v → (p : Parts) × IsDerElement o p
    der_are i o (inl v) d = l.der_element o v d.1
    der_are i o (inr v) d = m.der_element i o v d.1

    der_values : (i : Identifier) (o : List ℕ) (v : Arms.Value) → Arms.Der i o v → Arms.IsValue v
    der_values i o (inl v) d = l.der_values o v d.1
    der_values i o (inr v) d = m.der_values i o v d.1

    body_values : (p : Parts) (v : Arms.Value) → ArePossible p → Arms.Body p v → Arms.IsValue v
    body_values p (inl v) k b = l.body_values p v k b.1
    body_values p (inr v) k b = m.body_values p v k b.1

    form_values : HasValues Arms.Form Arms.IsValue
    form_values (inl v) i c f = l.form_values v i c f
    form_values (inr v) i c f = m.form_values v i c f

    body_one : IsOneBody Arms.Body
    body_one p (inl v) (inl w) a b = ap inl (l.body_one p v w a.1 b.1)
    body_one p (inl v) (inr w) a b = absurd (clash (has_a_tag tags p.id) a.0 b.0)
    body_one p (inr v) (inl w) a b = absurd (clash (has_a_tag tags p.id) b.0 a.0)
    body_one p (inr v) (inr w) a b = ap inr (m.body_one p v w a.1 b.1)

    one_form : IsOneForm Arms.Form
    one_form (inl v) i j c d f g = l.one_form v i j c d f g
    one_form (inr v) i j c d f g = m.one_form v i j c d f g

    one_value : IsOneValue Arms.Form
    one_value (inl v) (inl w) i c f g = ap inl (l.one_value v w i c f g)
    one_value (inl v) (inr w) i c f g = absurd (clash (has_a_tag tags i) (own_tag v i c f) (other_tag w i c g))
    one_value (inr v) (inl w) i c f g = absurd (clash (has_a_tag tags i) (own_tag w i c g) (other_tag v i c f))
    one_value (inr v) (inr w) i c f g = ap inr (m.one_value v w i c f g)

    form_fits : FitsElement Arms.Form
    form_fits (inl v) i c f = l.form_fits v i c f
    form_fits (inr v) i c f = m.form_fits v i c f

    form_check : FormChecks Arms.Form Arms.Check
    form_check (inl v) i c f = check_this (has_a_tag tags i) (G.Check (made i c)) (H.Check (made i c))
        (own_tag v i c f) (l.form_check v i c f)
    form_check (inr v) i c f = check_other (has_a_tag tags i) (G.Check (made i c)) (H.Check (made i c))
        (other_tag v i c f) (m.form_check v i c f)

    form_der : HasValues Arms.Form Arms.IsDer
    form_der (inl v) i c f = l.form_der v i c f
    form_der (inr v) i c f = m.form_der v i c f

    form_body : FormBodies Arms.Form Arms.Body
    form_body (inl v) i c f = (own_tag v i c f, l.form_body v i c f)
    form_body (inr v) i c f = (other_tag v i c f, m.form_body v i c f)

    abbrev strict_this : (v : G.Value) (o : List ℕ) (s : IsStrict Arms.Form (inl v) o) → IsStrict G.Form v o
    strict_this v o s = record { id = s.id; content = s.content; form = s.form; element = s.element }

    abbrev strict_other : (v : H.Value) (o : List ℕ) (s : IsStrict Arms.Form (inr v) o) → IsStrict H.Form v o
    strict_other v o s = record { id = s.id; content = s.content; form = s.form; element = s.element }

    strict_der : (v : Arms.Value) (o : List ℕ) (s : IsStrict Arms.Form v o) → Arms.Der s.id o v
    strict_der (inl v) o s = (own_tag v s.id s.content s.form, l.strict_der v o (strict_this v o s))
    strict_der (inr v) o s = (other_tag v s.id s.content s.form, m.strict_der v o (strict_other v o s))

    tagged : (v : Arms.Value) (i : Identifier) (c : List ℕ) → Arms.Form v i c → has_a_tag Arms.tags i ≡ true
    tagged (inl v) i c f = tag_of_first tags H.tags i (own_tag v i c f)
    tagged (inr v) i c f = tag_of_other tags H.tags i (m.tagged v i c f)

    -- A lawful choice and lawful arms that are apart are lawful arms.
    pub or_choice_lawful : AreLawfulArms Arms
    or_choice_lawful = record {
      one_equality = ⊎_set l.one_equality m.one_equality;
      der_element = der_are;
      der_values = der_values;
      body_values = body_values;
      form_values = form_values;
      der_one = λ i. both_one (has_a_tag tags i) G.Der (H.Der i) l.der_one (m.der_one i);
      body_one = body_one;
      one_form = one_form;
      one_value = one_value;
      form_fits = form_fits;
      form_check = form_check;
      form_der = form_der;
      form_body = form_body;
      strict_der = strict_der;
      tagged = tagged;
    }

-- What is written.

module _ {A S B : Type 0} (as_arms : A → S) (F : ArmsGrammar S) (first : S → ChosenArm) (k : AreLawfulPuts F first)
    (tags : List (ℕ × ℕ)) (H : ArmsGrammar B) (arm_of : B → ChosenArm) (m : AreLawfulPuts H arm_of) where
  abbrev Both : ArmsGrammar (OrChoice A B)
  Both = or_choice tags (choice_grammar as_arms F) H

  abbrev of : OrChoice A B → ChosenArm
  of = or_choice_chosen (λ x. first (as_arms x)) arm_of

  put_tells : (x : OrChoice A B) → arm_tells (of x)
  put_tells (part.This x) = k.tells_all (as_arms x)
  put_tells (part.Other y) = m.tells_all y

  put_by_value : (x y : OrChoice A B) → Both.value x ≡ Both.value y →
      (arm_constructed (of x) ≡ arm_constructed (of y)) ×
      (arm_header (of x) ≡ arm_header (of y)) × (arm_content (of x) ≡ arm_content (of y))
  put_by_value (part.This x) (part.This y) e =
      k.by_value (as_arms x) (as_arms y) (let t : F.value (as_arms x) ≡ F.value (as_arms y) = cc in t)
  put_by_value (part.This x) (part.Other y) e = absurd (cc)
  put_by_value (part.Other x) (part.This y) e = absurd (cc)
  put_by_value (part.Other x) (part.Other y) e = m.by_value x y (let t : H.value x ≡ H.value y = cc in t)

  put_form : (x : OrChoice A B) (i : Identifier) (c : List ℕ) → Both.Form (Both.value x) i c → IsArmWritable (of x) ×
      (arm_constructed (of x) ≡ i.constructed) × (arm_content (of x) ≡ c) × (arm_header (of x) ≡ header_of i c)
  put_form (part.This x) i c f = k.form (as_arms x) i c f
  put_form (part.Other y) i c f = m.form y i c f

  put_der_form : (x : OrChoice A B) → Both.IsDer (Both.value x) → length (arm_content (of x)) < 2 ^ 64 →
      ∥ ((i : Identifier) × Both.Form (Both.value x) i (arm_content (of x))) ∥₁
  put_der_form (part.This x) d l = k.der_form (as_arms x) d l
  put_der_form (part.Other y) d l = m.der_form y d l

  put_der : (x : OrChoice A B) → Both.IsDer (Both.value x) → IsArmWritable (of x)
  put_der (part.This x) d = k.der_writable (as_arms x) d
  put_der (part.Other y) d = m.der_writable y d

  assert_put_valid : (x : OrChoice A B) → HasArmValue (of x) → Both.IsValue (Both.value x)
  assert_put_valid (part.This x) h = k.assert_valid (as_arms x) h
  assert_put_valid (part.Other y) h = m.assert_valid y h

  -- What is written of a choice and of other arms is lawful together.
  pub or_choice_puts : AreLawfulPuts Both of
  or_choice_puts = record {
    tells_all = put_tells;
    by_value = put_by_value;
    form = put_form;
    der_form = put_der_form;
    der_writable = put_der;
    assert_valid = assert_put_valid;
  }
