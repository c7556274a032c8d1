-- Arms that are told apart are lawful, and so is a choice of them.
pub mod InHand
pub mod Nested
pub mod Readers
use Rattle.std.proofs.Common.{◌≡◌, ◌≢◌, ◌∙◌, ap, sym, subst, refl, arith, ℕ, ◌<◌, ◌^◌, inl, inr, ◌⊎◌, Bool, true, false, List}
use Rattle.std.proofs.Common.{[], ◌∷◌, ◌++◌, length, Result, Ok, Err}
use Rattle.std.specs.Prelude.{◌||◌, ◌&&◌, not, nat_eq, IsTrue, IfErr, None}
use Rattle.std.proofs.lemmas.Bool.{eq-eqb, eqb-true}
use mathlib.Core.Logic.{∥∥₁_map}
use mathlib.Core.HLevel.{prop→set, ⊥_prop}
use mathlib.Core.Sum.{⊎_set}
use Rattle.x690.specs.Octets.{IsOctets}
use Rattle.x690.specs.Identifiers.{Identifier, IsTruncatedIdentifier}
use Rattle.x690.specs.Rules.{der_rule}
use Rattle.x690.specs.Elements.{Parts, ArePossible, IsDerElement}
use Rattle.x690.specs.Faults.{DerElementFault}
use Rattle.x690.specs.Joined.{IsPrefixFree}
use Rattle.x690.specs.Laws.StrictElements.{der_allows_strict}
use Rattle.asn1_headers.specs.Answers.{HasPrefix, Exactly, TellsMemory, IsOther, Speaks}
use Rattle.asn1_headers.specs.Error.{ErrorIs}
use Rattle.asn1_headers.specs.Header.Reading.{der_violation}
use Rattle.asn1_headers.specs.declared.error.Err.{Err as Refusal}
use Rattle.asn1_headers.specs.declared.error.Error.{Error}
use Rattle.asn1_headers.specs.declared.error.SerializeError.{SerializeError}
use Rattle.asn1_rs.specs.declared.choices.arms.Never.{Never}
use Rattle.asn1_rs.specs.declared.choices.arms.Or.{Or}
use Rattle.asn1_rs.specs.declared.choices.arms.Or.TheVariants as arm
use Rattle.asn1_rs.specs.Grammar.{IsOneBody, FormChecks, FormBodies, FormNumber, made}
use Rattle.asn1_rs.specs.Grammar.Form.{IsOneForm, IsOneValue, FitsElement, HasValues, IsStrict, header_of}
use Rattle.asn1_rs.specs.Grammar.Item.{ItemGrammar, IsLawfulItem, IsLawfulWriting}
use Rattle.asn1_rs.specs.Laws.Readers.{der_elements}
use Rattle.asn1_rs.specs.Laws.Words.{strict_element}
use Rattle.asn1_rs.specs.ToDer.{Writing, HasNone, IsWritable, IntoVector}
use Rattle.asn1_rs.specs.Choices.{ArmsGrammar, ChosenArm, chosen, InArm, ByTag, CheckByTag, is_of_tag, has_a_tag}
use Rattle.asn1_rs.specs.Choices.{has_a_class, is_tag_among}
use Rattle.asn1_rs.specs.Choices.{no_arms, or_arms, or_value, or_chosen, no_value, none_chosen, choice_grammar, ChoiceWord}
use Rattle.asn1_rs.specs.Choices.{choice_writing, arm_tells, arm_header, arm_content, arm_constructed, arm_count_refuses}
use Rattle.asn1_rs.specs.Choices.{arm_header_refuses, arm_content_refuses, numbers_of_tags}
use Rattle.asn1_rs.specs.Structs.{is_one_of}

-- Tests of tags.

-- a test holds and does not
pub clash : (b : Bool) → b ≡ true → b ≡ false → ⊥
clash b p q = let e : true ≡ false = sym p ∙ q in cc

not_true : (b : Bool) → (b ≡ true → ⊥) → b ≡ false
not_true true h = absurd (h refl)
not_true false h = refl

not_so : (b : Bool) → not b ≡ true → b ≡ false
not_so true h = absurd (cc)
not_so false h = refl

both_hold : (a b : Bool) → a ≡ true → b ≡ true → (a && b) ≡ true
both_hold true b p q = q
both_hold false b p q = absurd (clash false p refl)

pub first_of : (a b : Bool) → (a && b) ≡ true → a ≡ true
first_of true b e = refl
first_of false b e = absurd (cc)

pub second_of : (a b : Bool) → (a && b) ≡ true → b ≡ true
second_of true b e = e
second_of false b e = absurd (cc)

pub or_first : (a b : Bool) → a ≡ true → (a || b) ≡ true
or_first true b p = refl
or_first false b p = absurd (clash false p refl)

pub or_second : (a b : Bool) → b ≡ true → (a || b) ≡ true
or_second true b q = refl
or_second false b q = q

pub or_either : (a b : Bool) → (a || b) ≡ true → (a ≡ true) ⊎ (b ≡ true)
or_either true b e = inl refl
or_either false b e = inr e

-- an identifier of this class and number has the tag, and no other has
tagged_by : (class number : ℕ) (i : Identifier) → i.class ≡ class → i.number ≡ number → is_of_tag class number i ≡ true
tagged_by class number i p q = both_hold (nat_eq i.class class) (nat_eq i.number number) (eq-eqb i.class class p)
    (eq-eqb i.number number q)

pub class_by : (class number : ℕ) (i : Identifier) → is_of_tag class number i ≡ true → i.class ≡ class
class_by class number i e = eqb-true i.class class (first_of (nat_eq i.class class) (nat_eq i.number number) e)

number_by : (class number : ℕ) (i : Identifier) → is_of_tag class number i ≡ true → i.number ≡ number
number_by class number i e = eqb-true i.number number (second_of (nat_eq i.class class) (nat_eq i.number number) e)

-- what has one of the tags and has this one makes this one of them
among_them : (class number : ℕ) (tags : List (ℕ × ℕ)) (i : Identifier) → is_of_tag class number i ≡ true →
    has_a_tag tags i ≡ true → is_tag_among class number tags ≡ true
among_them class number [] i own e = absurd (clash true refl (sym e))
among_them class number (tag ∷ tags) i own e = elim (or_either (is_of_tag tag.0 tag.1 i) (has_a_tag tags i) e) [
  | inl first ↦ or_first (nat_eq class tag.0 && nat_eq number tag.1) (is_tag_among class number tags)
      (both_hold (nat_eq class tag.0) (nat_eq number tag.1)
      (eq-eqb class tag.0 (sym (class_by class number i own) ∙ class_by tag.0 tag.1 i first))
      (eq-eqb number tag.1 (sym (number_by class number i own) ∙ number_by tag.0 tag.1 i first)))
  | inr others ↦ or_second (nat_eq class tag.0 && nat_eq number tag.1) (is_tag_among class number tags)
      (among_them class number tags i own others)
]

-- what has one of the tags has one of their classes
pub has_class_of : (tags : List (ℕ × ℕ)) (i : Identifier) → has_a_tag tags i ≡ true → has_a_class tags i.class ≡ true
has_class_of [] i e = e
has_class_of (tag ∷ tags) i e = elim (or_either (is_of_tag tag.0 tag.1 i) (has_a_tag tags i) e) [
  | inl first ↦ or_first (nat_eq i.class tag.0) (has_a_class tags i.class)
      (eq-eqb i.class tag.0 (class_by tag.0 tag.1 i first))
  | inr others ↦ or_second (nat_eq i.class tag.0) (has_a_class tags i.class) (has_class_of tags i others)
]

-- and one of their tag numbers
pub has_number_of : (tags : List (ℕ × ℕ)) (i : Identifier) → has_a_tag tags i ≡ true →
    is_one_of i.number (numbers_of_tags tags) ≡ true
has_number_of [] i e = e
has_number_of (tag ∷ tags) i e = elim (or_either (is_of_tag tag.0 tag.1 i) (has_a_tag tags i) e) [
  | inl first ↦ or_first (nat_eq tag.1 i.number) (is_one_of i.number (numbers_of_tags tags))
      (eq-eqb tag.1 i.number (sym (number_by tag.0 tag.1 i first)))
  | inr others ↦ or_second (nat_eq tag.1 i.number) (is_one_of i.number (numbers_of_tags tags))
      (has_number_of tags i others)
]

-- Lawful arms.

-- The laws of a lawful item, of several types. A word by DER is an element, and one word alone of an identifier begins
-- an input. The strict parts of a value have the tag of its type.
pub record AreLawfulArms {S : Type 0} (G : ArmsGrammar S) : Type 0 where
  pub one_equality : IsSet G.Value
  pub der_element : (i : Identifier) (o : List ℕ) (v : G.Value) → G.Der i o v → (p : Parts) × IsDerElement o p
  pub der_values : (i : Identifier) (o : List ℕ) (v : G.Value) → G.Der i o v → G.IsValue v
  pub body_values : (p : Parts) (v : G.Value) → ArePossible p → G.Body p v → G.IsValue v
  pub form_values : HasValues G.Form G.IsValue
  pub der_one : (i : Identifier) → IsPrefixFree (G.Der i)
  pub body_one : IsOneBody G.Body
  pub one_form : IsOneForm G.Form
  pub one_value : IsOneValue G.Form
  pub form_fits : FitsElement G.Form
  pub form_check : FormChecks G.Form G.Check
  pub form_der : HasValues G.Form G.IsDer
  pub form_body : FormBodies G.Form G.Body
  pub strict_der : (v : G.Value) (o : List ℕ) (s : IsStrict G.Form v o) → G.Der s.id o v
  pub tagged : (v : G.Value) (i : Identifier) (c : List ℕ) → G.Form v i c → has_a_tag G.tags i ≡ true

-- No arms are lawful.
pub no_arms_lawful : AreLawfulArms no_arms
no_arms_lawful = record {
  one_equality = prop→set ⊥_prop;
  der_element = λ i o v w. absurd v;
  der_values = λ i o v w. v;
  body_values = λ p v k b. v;
  form_values = λ v i c f. v;
  der_one = λ i. record { one = λ x y r s v w a b e. absurd v; some = λ v a. v };
  body_one = λ p v w a b. absurd v;
  one_form = λ v i j c d f g. absurd v;
  one_value = λ v w i c f g. absurd v;
  form_fits = λ v i c f. absurd v;
  form_check = λ v i c f. v;
  form_der = λ v i c f. v;
  form_body = λ v i c f. v;
  strict_der = λ v o s. v;
  tagged = λ v i c f. absurd v;
}

-- what has the tag of the first arm, or not, passes the check of that
check_this : (b : Bool) (P Q : Type 0) → b ≡ true → P → CheckByTag b P Q
check_this true P Q e p = p
check_this false P Q e p = absurd (clash false e refl)

check_other : (b : Bool) (P Q : Type 0) → b ≡ false → Q → CheckByTag b P Q
check_other true P Q e q = absurd (clash true refl e)
check_other false P Q e q = q

module _ {A B : Type 0} (class number : ℕ) (G : ItemGrammar A) (H : ArmsGrammar B) where
  -- the two together
  abbrev Arms : ArmsGrammar (Or A B class)
  Arms = or_arms class number G H

  -- words of one identifier, of which one alone begins an input
  both_one : (b : Bool) (P : List ℕ → G.Value → Type 0) (Q : List ℕ → H.Value → Type 0) → IsPrefixFree P → IsPrefixFree Q →
      IsPrefixFree (λ o. ByTag b (P o) (Q o))
  both_one b P Q p q = record { one = one; some = some }
    where
      one : (x y r s : List ℕ) (v w : G.Value ⊎ H.Value) → ByTag b (P x) (Q x) v → ByTag b (P y) (Q y) w →
          x ++ r ≡ y ++ s → (x ≡ y) × (v ≡ w)
      one x y r s (inl v) (inl w) a c e = let k = p.one x y r s v w a.1 c.1 e in (k.0, ap inl k.1)
      one x y r s (inl v) (inr w) a c e = absurd (clash b a.0 c.0)
      one x y r s (inr v) (inl w) a c e = absurd (clash b c.0 a.0)
      one x y r s (inr v) (inr w) a c e = let k = q.one x y r s v w a.1 c.1 e in (k.0, ap inr k.1)

      some : (v : G.Value ⊎ H.Value) → ByTag b (P []) (Q []) v → ⊥
      some (inl v) a = p.some v a.1
      some (inr v) a = q.some v a.1

  module _ (l : IsLawfulItem G) (own : ℕ) (numbered : FormNumber G.Form number)
      (classed : (v : G.Value) (i : Identifier) (c : List ℕ) → G.Form v i c → i.class ≡ own)
      (of_class : nat_eq own class ≡ true) (m : AreLawfulArms H) (apart : not (is_tag_among class number H.tags) ≡ true)
    where
      -- the strict parts of the first arm have its tag, and those of the others have not
      own_tag : (v : G.Value) (i : Identifier) (c : List ℕ) → G.Form v i c → is_of_tag class number i ≡ true
      own_tag v i c f = tagged_by class number i (classed v i c f ∙ eqb-true own class of_class) (numbered v i c f)

      other_tag : (w : H.Value) (i : Identifier) (c : List ℕ) → H.Form w i c → is_of_tag class number i ≡ false
      other_tag w i c f = not_true (is_of_tag class number i) (λ e.
          clash (is_tag_among class number H.tags) (among_them class number H.tags i e (m.tagged w i c f))
          (not_so (is_tag_among class number H.tags) apart))

      der_are : (i : Identifier) (o : List ℕ) (v : Arms.Value) → Arms.Der i o v → (p : Parts) × IsDerElement o p
      der_are i o (inl v) d = l.der_element o v d.1
      der_are i o (inr v) d = m.der_element i o v d.1

      der_values : (i : Identifier) (o : List ℕ) (v : Arms.Value) → Arms.Der i o v → Arms.IsValue v
      der_values i o (inl v) d = l.der_values o v d.1
      der_values i o (inr v) d = m.der_values i o v d.1

      body_values : (p : Parts) (v : Arms.Value) → ArePossible p → Arms.Body p v → Arms.IsValue v
      body_values p (inl v) k b = l.body_values p v k b.1
      body_values p (inr v) k b = m.body_values p v k b.1

      form_values : HasValues Arms.Form Arms.IsValue
      form_values (inl v) i c f = l.form_values v i c f
      form_values (inr v) i c f = m.form_values v i c f

      body_one : IsOneBody Arms.Body
      body_one p (inl v) (inl w) a b = ap inl (l.body_one p v w a.1 b.1)
      body_one p (inl v) (inr w) a b = absurd (clash (is_of_tag class number p.id) a.0 b.0)
      body_one p (inr v) (inl w) a b = absurd (clash (is_of_tag class number p.id) b.0 a.0)
      body_one p (inr v) (inr w) a b = ap inr (m.body_one p v w a.1 b.1)

      one_form : IsOneForm Arms.Form
      one_form (inl v) i j c d f g = l.one_form v i j c d f g
      one_form (inr v) i j c d f g = m.one_form v i j c d f g

      one_value : IsOneValue Arms.Form
      one_value (inl v) (inl w) i c f g = ap inl (l.one_value v w i c f g)
      one_value (inl v) (inr w) i c f g = absurd (clash (is_of_tag class number i) (own_tag v i c f) (other_tag w i c g))
      one_value (inr v) (inl w) i c f g = absurd (clash (is_of_tag class number i) (own_tag w i c g) (other_tag v i c f))
      one_value (inr v) (inr w) i c f g = ap inr (m.one_value v w i c f g)

      form_fits : FitsElement Arms.Form
      form_fits (inl v) i c f = l.form_fits v i c f
      form_fits (inr v) i c f = m.form_fits v i c f

      form_check : FormChecks Arms.Form Arms.Check
      form_check (inl v) i c f =
          check_this (is_of_tag class number i) (G.Check (made i c)) (H.Check (made i c)) (own_tag v i c f)
          (l.form_check v i c f)
      form_check (inr v) i c f =
          check_other (is_of_tag class number i) (G.Check (made i c)) (H.Check (made i c)) (other_tag v i c f)
          (m.form_check v i c f)

      form_der : HasValues Arms.Form Arms.IsDer
      form_der (inl v) i c f = l.form_der v i c f
      form_der (inr v) i c f = m.form_der v i c f

      form_body : FormBodies Arms.Form Arms.Body
      form_body (inl v) i c f = (own_tag v i c f, l.form_body v i c f)
      form_body (inr v) i c f = (other_tag v i c f, m.form_body v i c f)

      abbrev strict_this : (v : G.Value) (o : List ℕ) (s : IsStrict Arms.Form (inl v) o) → IsStrict G.Form v o
      strict_this v o s = record { id = s.id; content = s.content; form = s.form; element = s.element }

      abbrev strict_other : (v : H.Value) (o : List ℕ) (s : IsStrict Arms.Form (inr v) o) → IsStrict H.Form v o
      strict_other v o s = record { id = s.id; content = s.content; form = s.form; element = s.element }

      strict_der : (v : Arms.Value) (o : List ℕ) (s : IsStrict Arms.Form v o) → Arms.Der s.id o v
      strict_der (inl v) o s = (own_tag v s.id s.content s.form, l.strict_der v o (strict_this v o s))
      strict_der (inr v) o s = (other_tag v s.id s.content s.form, m.strict_der v o (strict_other v o s))

      tagged : (v : Arms.Value) (i : Identifier) (c : List ℕ) → Arms.Form v i c → has_a_tag Arms.tags i ≡ true
      tagged (inl v) i c f = or_first (is_of_tag class number i) (has_a_tag H.tags i) (own_tag v i c f)
      tagged (inr v) i c f = or_second (is_of_tag class number i) (has_a_tag H.tags i) (m.tagged v i c f)

      -- A lawful type and lawful arms, none of which has its class and its tag number, are lawful arms.
      pub or_arms_lawful : AreLawfulArms Arms
      or_arms_lawful = record {
        one_equality = ⊎_set l.one_equality m.one_equality;
        der_element = der_are;
        der_values = der_values;
        body_values = body_values;
        form_values = form_values;
        der_one = λ i. both_one (is_of_tag class number i) G.Der (H.Der i) l.der_one (m.der_one i);
        body_one = body_one;
        one_form = one_form;
        one_value = one_value;
        form_fits = form_fits;
        form_check = form_check;
        form_der = form_der;
        form_body = form_body;
        strict_der = strict_der;
        tagged = tagged;
      }

-- Choices.

module _ {S T : Type 0} (as_arms : T → S) (G : ArmsGrammar S) (m : AreLawfulArms G) where
  choice_one : (x y r s : List ℕ) (v w : G.Value) → ChoiceWord G.Der x v → ChoiceWord G.Der y w → x ++ r ≡ y ++ s →
      (x ≡ y) × (v ≡ w)
  choice_one x y r s v w a b e =
      let same : (x ≡ y) × (a.0 ≡ b.0) = der_elements.one.one x y r s a.0 b.0 a.1 b.1 e in
      (m.der_one b.0.id).one x y r s v w (subst (λ (p : Parts). G.Der p.id x v) same.1 a.2) b.2 e

  -- A choice of lawful arms is a lawful item.
  pub choice_lawful : IsLawfulItem (choice_grammar as_arms G)
  choice_lawful = record {
    one_equality = m.one_equality;
    der_element = λ o v w. (w.0, w.1);
    der_values = λ o v w. m.der_values w.0.id o v w.2;
    body_values = m.body_values;
    form_values = m.form_values;
    der_one = record { one = choice_one; some = λ v a. (m.der_one a.0.id).some v a.2 };
    body_one = m.body_one;
    one_form = m.one_form;
    one_value = m.one_value;
    form_fits = m.form_fits;
    form_check = m.form_check;
    form_der = m.form_der;
    form_body = m.form_body;
    strict_der = λ v o s. (
      made s.id s.content,
      strict_element der_rule der_allows_strict G.Form v o s,
      m.strict_der v o s,
    );
  }

-- What is written.

-- neither its counts nor its header nor its contents octets have a refusal of their own
abbrev pub IsArmWritable : ChosenArm → Type 0
IsArmWritable a = HasNone (arm_count_refuses a) × HasNone (arm_header_refuses a) × HasNone (arm_content_refuses a)

-- its value is one of its type's
abbrev pub HasArmValue : ChosenArm → Type 0
HasArmValue a = a.grammar.IsValue (a.grammar.value a.item)

-- The laws of what is written of a lawful item, of several types. What is a value of its arm's type is one of theirs.
pub record AreLawfulPuts {S : Type 0} (G : ArmsGrammar S) (arm_of : S → ChosenArm) : Type 0 where
  pub tells_all : (x : S) → arm_tells (arm_of x)
  pub by_value : (x y : S) → G.value x ≡ G.value y → (arm_constructed (arm_of x) ≡ arm_constructed (arm_of y)) ×
      (arm_header (arm_of x) ≡ arm_header (arm_of y)) × (arm_content (arm_of x) ≡ arm_content (arm_of y))
  pub form : (x : S) (i : Identifier) (c : List ℕ) → G.Form (G.value x) i c → IsArmWritable (arm_of x) ×
      (arm_constructed (arm_of x) ≡ i.constructed) × (arm_content (arm_of x) ≡ c) ×
      (arm_header (arm_of x) ≡ header_of i c)
  pub der_form : (x : S) → G.IsDer (G.value x) → length (arm_content (arm_of x)) < 2 ^ 64 →
      ∥ ((i : Identifier) × G.Form (G.value x) i (arm_content (arm_of x))) ∥₁
  pub der_writable : (x : S) → G.IsDer (G.value x) → IsArmWritable (arm_of x)
  pub assert_valid : (x : S) → HasArmValue (arm_of x) → G.IsValue (G.value x)

-- So of no arms.
pub no_puts : AreLawfulPuts no_arms none_chosen
no_puts = record {
  tells_all = λ x. absurd (no_value x);
  by_value = λ x y e. absurd (no_value x);
  form = λ x i c f. absurd (no_value x);
  der_form = λ x d l. absurd (no_value x);
  der_writable = λ x d. absurd (no_value x);
  assert_valid = λ x h. no_value x;
}

module _ {A B : Type 0} (class number : ℕ) (G : ItemGrammar A) (H : ArmsGrammar B) (w : Writing A)
    (k : IsLawfulWriting G w) (arm_of : B → ChosenArm) (m : AreLawfulPuts H arm_of) where
  abbrev Both : ArmsGrammar (Or A B class)
  Both = or_arms class number G H

  abbrev of : Or A B class → ChosenArm
  of = or_chosen G w arm_of

  put_tells : (x : Or A B class) → arm_tells (of x)
  put_tells (arm.This x) = k.tells_all x
  put_tells (arm.Other y) = m.tells_all y

  put_by_value : (x y : Or A B class) → Both.value x ≡ Both.value y → (arm_constructed (of x) ≡ arm_constructed (of y)) ×
      (arm_header (of x) ≡ arm_header (of y)) × (arm_content (of x) ≡ arm_content (of y))
  put_by_value (arm.This x) (arm.This y) e = k.by_value x y (let t : G.value x ≡ G.value y = cc in t)
  put_by_value (arm.This x) (arm.Other y) e = absurd (cc)
  put_by_value (arm.Other x) (arm.This y) e = absurd (cc)
  put_by_value (arm.Other x) (arm.Other y) e = m.by_value x y (let t : H.value x ≡ H.value y = cc in t)

  put_form : (x : Or A B class) (i : Identifier) (c : List ℕ) → Both.Form (Both.value x) i c → IsArmWritable (of x) ×
      (arm_constructed (of x) ≡ i.constructed) × (arm_content (of x) ≡ c) × (arm_header (of x) ≡ header_of i c)
  put_form (arm.This x) i c f = k.form x i c f
  put_form (arm.Other y) i c f = m.form y i c f

  put_der_form : (x : Or A B class) → Both.IsDer (Both.value x) → length (arm_content (of x)) < 2 ^ 64 →
      ∥ ((i : Identifier) × Both.Form (Both.value x) i (arm_content (of x))) ∥₁
  put_der_form (arm.This x) d l = k.der_form x d l
  put_der_form (arm.Other y) d l = m.der_form y d l

  put_der : (x : Or A B class) → Both.IsDer (Both.value x) → IsArmWritable (of x)
  put_der (arm.This x) d = k.der_writable x d
  put_der (arm.Other y) d = m.der_writable y d

  assert_put_valid : (x : Or A B class) → HasArmValue (of x) → Both.IsValue (Both.value x)
  assert_put_valid (arm.This x) h = h
  assert_put_valid (arm.Other y) h = m.assert_valid y h

  -- So of a type before others.
  pub or_puts : AreLawfulPuts Both of
  or_puts = record {
    tells_all = put_tells;
    by_value = put_by_value;
    form = put_form;
    der_form = put_der_form;
    der_writable = put_der;
    assert_valid = assert_put_valid;
  }

-- what has no refusal of its own has none in a vector
none_into_vector : (own : SerializeError → Type 0) → HasNone own → HasNone (IntoVector own)
none_into_vector own n e h = n h.0 h.1

module _ {S T : Type 0} (as_arms : T → S) (G : ArmsGrammar S) (arm_of : S → ChosenArm) (m : AreLawfulPuts G arm_of) where
  choice_writable : (x : T) → IsArmWritable (arm_of (as_arms x)) → IsWritable (choice_writing as_arms arm_of) x
  choice_writable x a = (
    a.0,
    none_into_vector (arm_header_refuses (arm_of (as_arms x))) a.1,
    none_into_vector (arm_content_refuses (arm_of (as_arms x))) a.2,
  )

  -- What is written of a choice is lawful where its arms are.
  pub choice_lawful_writing : IsLawfulWriting (choice_grammar as_arms G) (choice_writing as_arms arm_of)
  choice_lawful_writing = record {
    tells_all = λ x. m.tells_all (as_arms x);
    by_value = λ x y e. m.by_value (as_arms x) (as_arms y) e;
    form = λ x i c f. let a = m.form (as_arms x) i c f in (choice_writable x a.0, a.1, a.2, a.3);
    der_form = λ x d l. m.der_form (as_arms x) d l;
    der_writable = λ x d. choice_writable x (m.der_writable (as_arms x) d);
  }
