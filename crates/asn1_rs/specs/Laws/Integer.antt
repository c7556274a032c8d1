-- Laws of integers as elements (X.690 8.3).
pub mod Unsigned
pub mod Signed
pub mod Machine
pub mod Octets
use Rattle.std.specs.Prelude.{Result, Ok, Err, false, ℤ, nat_eq, if◌then◌else◌}
use Rattle.std.proofs.Common.{arith, lit<, ◌≡◌, ◌∙◌, ap, sym, refl, subst, ℕ, inl, inr, Bool, true, false, List, []}
use Rattle.std.proofs.Common.{◌∷◌, length}
use Rattle.x690.specs.Octets.{IsOctets}
use Rattle.x690.specs.Digits.{twos_complement_value}
use Rattle.x690.specs.Identifiers.{Identifier}
use Rattle.x690.specs.Lengths.{LengthForm, definite, indefinite}
use Rattle.x690.specs.Elements.{Parts}
use Rattle.x690.specs.Integers.{HasRedundantZeros, HasRedundantOnes, IsIntegerContent}
use Rattle.x690.specs.Laws.Integers.{integer_content_unique, integer_content_one_value}
use Rattle.asn1_headers.specs.declared.error.Error.{Error}
use Rattle.asn1_headers.specs.declared.error.Error.TheVariants.{ConstructUnexpected, IndefiniteLengthUnexpected}
use Rattle.asn1_headers.specs.declared.error.Error.TheVariants.{DerConstraintFailed, OutOfMemory}
use Rattle.asn1_headers.specs.declared.error.DerConstraint.TheVariants.{IntegerEmpty, IntegerLeadingZeroes}
use Rattle.asn1_headers.specs.declared.error.DerConstraint.TheVariants.{IntegerLeadingFF}
use Rattle.asn1_rs.specs.Any.{parts_of}
use Rattle.asn1_rs.specs.Traits.{OfParts}
use Rattle.asn1_rs.specs.Grammar.Form.{IsOneForm, IsOneValue, FitsElement}
use Rattle.asn1_rs.specs.Grammar.{TakesBody, Checks, FormChecks, FormBodies, FormTakes, made, of_class}
use Rattle.asn1_rs.specs.Kinds.{IsLawfulElement, IsExactCheck, IsExactConversion}
use Rattle.asn1_rs.specs.Kinds.Writing.{IsWrittenElement}
use Rattle.asn1_rs.specs.Laws.Forms.{universal_one, universal_value, universal_fits}
use Rattle.asn1_rs.specs.Integer.{integer_number, IntegerCheck, IntegerCheckRefuses, IntegerCheckGives, IsIntegerOr}
use Rattle.asn1_rs.specs.Integer.{IntegerBody, IntegerRefuses, IntegerGives, IntegerContent, IntegerForm}
use Rattle.asn1_rs.specs.Integer.{integer_element}
use Rattle.std.proofs.Math.IntN.{ℤ_set}

-- The constraints.

-- the refusal of the check, where it refuses
check_refusal : Bool → LengthForm → List ℕ → Error
check_refusal true form content = ConstructUnexpected
check_refusal false indefinite content = IndefiniteLengthUnexpected
check_refusal false (definite n) [] = DerConstraintFailed IntegerEmpty
check_refusal false (definite n) (first ∷ others) =
    if nat_eq first 0 then DerConstraintFailed IntegerLeadingZeroes else DerConstraintFailed IntegerLeadingFF

-- A leading octet of zeros that is spare is refused as such.
redundant_zeros_refused : (n : ℕ) (c : List ℕ) → HasRedundantZeros c →
    check_refusal false (definite n) c ≡ DerConstraintFailed IntegerLeadingZeroes
unfolding check_refusal
redundant_zeros_refused n [] h = absurd h
redundant_zeros_refused n (x ∷ []) h = absurd h
redundant_zeros_refused n (x ∷ y ∷ c) h = rw h.0 refl

-- A leading octet of ones that is spare is refused as such.
redundant_ones_refused : (n : ℕ) (c : List ℕ) → HasRedundantOnes c →
    check_refusal false (definite n) c ≡ DerConstraintFailed IntegerLeadingFF
unfolding check_refusal
redundant_ones_refused n [] h = absurd h
redundant_ones_refused n (x ∷ []) h = absurd h
redundant_ones_refused n (x ∷ y ∷ c) h = rw h.0 refl

-- Each refusal of the check is that one.
check_refusal_is : (p : Parts) (e : Error) → IntegerCheckRefuses p e →
    check_refusal p.id.constructed p.form p.content ≡ e
unfolding check_refusal
check_refusal_is p ConstructUnexpected h = rw h refl
check_refusal_is p IndefiniteLengthUnexpected h = rw (h.0, h.1) refl
check_refusal_is p (DerConstraintFailed IntegerEmpty) h = rw (h.0, h.1.1, h.2) refl
check_refusal_is p (DerConstraintFailed IntegerLeadingZeroes) h =
    rw (h.0, h.1.1) (redundant_zeros_refused h.1.0 p.content h.2)
check_refusal_is p (DerConstraintFailed IntegerLeadingFF) h = rw (h.0, h.1.1) (redundant_ones_refused h.1.0 p.content h.2)
check_refusal_is p _ h = absurd h

-- the check allows one refusal for one element
pub one_integer_check_refusal : (p : Parts) (e f : Error) → IntegerCheckGives p (Err e) →
    IntegerCheckGives p (Err f) → e ≡ f
one_integer_check_refusal p e f h k = sym (check_refusal_is p e h) ∙ check_refusal_is p f k

-- it is exact
integer_check_exact : (p : Parts) (answer : Result (Unit {0}) Error) → IntegerCheckGives p answer →
    Checks IntegerCheck p answer
integer_check_exact p (Ok x) h = h
integer_check_exact p (Err e) h = λ k. refuses e h k
  where
    refuses : (e : Error) → IntegerCheckRefuses p e → IntegerCheck p → ⊥
    refuses ConstructUnexpected h k = let a = k.primitive in cc
    refuses IndefiniteLengthUnexpected h k = let a = k.counted.1 in let b = h.1 in cc
    refuses (DerConstraintFailed IntegerEmpty) h k = k.shortest.0 h.2
    refuses (DerConstraintFailed IntegerLeadingZeroes) h k = k.shortest.1 h.2
    refuses (DerConstraintFailed IntegerLeadingFF) h k = k.shortest.2 h.2
    refuses _ h k = h

-- The constraints are exact, and do not allocate.
pub integer_checks : IsExactCheck IntegerCheckGives IntegerCheck
integer_checks = record { exact = integer_check_exact; asks_no_memory = λ p h. h }

-- The conversion.

-- no element is both an integer and refused as none
integer_or_refused : (p : Parts) (e : Error) → IsIntegerOr p (Err e) → IsIntegerOr p (Ok tt) → ⊥
integer_or_refused p e (inl a) b = a.0 b.0
integer_or_refused p e (inr a) b = let c = a.1 in let d = b.1 in cc

-- An element that is refused as no integer has one refusal.
one_header_refusal : (p : Parts) (e f : Error) → IsIntegerOr p (Err e) → IsIntegerOr p (Err f) → e ≡ f
one_header_refusal p e f (inl a) (inl b) = a.1 ∙ sym b.1
one_header_refusal p e f (inl a) (inr b) = absurd (a.0 b.0)
one_header_refusal p e f (inr a) (inl b) = absurd (b.0 a.0)
one_header_refusal p e f (inr a) (inr b) = a.2 ∙ sym b.2

-- the conversion allows one refusal for one element, where its contents octets allow one
pub one_integer_refusal : (content_refuses : List ℕ → Error → Type 0) →
    ((c : List ℕ) (e f : Error) → content_refuses c e → content_refuses c f → e ≡ f) →
    (p : Parts) (e f : Error) → IntegerRefuses content_refuses p e → IntegerRefuses content_refuses p f → e ≡ f
one_integer_refusal refuses one p e f (inl a) (inl b) = one_header_refusal p e f a b
one_integer_refusal refuses one p e f (inl a) (inr b) = absurd (integer_or_refused p e a b.0)
one_integer_refusal refuses one p e f (inr a) (inl b) = absurd (integer_or_refused p f b a.0)
one_integer_refusal refuses one p e f (inr a) (inr b) = one p.content e f a.1 b.1

module _ (Holds : ℤ → Type 0) where
  -- it is exact
  integer_exact : {T : Type 0} (number : T → ℤ) (content_refuses : List ℕ → Error → Type 0) →
      ((c : List ℕ) (e : Error) → IsOctets c → content_refuses c e → Holds (twos_complement_value c) → ⊥) →
      (p : Parts) (answer : Result T Error) → IsOctets p.content → IntegerGives number Holds content_refuses p answer →
      TakesBody (IntegerBody Holds) number false (λ (x y : Error). y ≡ x) p answer
  integer_exact number content_refuses refused p (Ok x) o h = h
  integer_exact number content_refuses refused p (Err e) o h = inr (λ v b. refuses h v b)
    where
      refuses : IntegerRefuses content_refuses p e → (v : ℤ) → IntegerBody Holds p v → ⊥
      refuses (inl a) v b = integer_or_refused p e a (b.number, b.primitive)
      refuses (inr a) v b = refused p.content e o a.1 (subst Holds b.value b.held)

  -- It is exact, and does not allocate, where no contents octets are both held and refused.
  pub integer_converts : {T : Type 0} (number : T → ℤ) (content_refuses : List ℕ → Error → Type 0) →
      ((c : List ℕ) (e : Error) → IsOctets c → content_refuses c e → Holds (twos_complement_value c) → ⊥) →
      ((c : List ℕ) → content_refuses c OutOfMemory → ⊥) →
      IsExactConversion (OfParts (IntegerGives number Holds content_refuses)) (integer_element number Holds)
  integer_converts number content_refuses refused asks_no_memory = record {
    exact = λ any. integer_exact number content_refuses refused (parts_of any);
    asks_no_memory = λ none any r. not_memory (parts_of any) r;
  }
    where
      not_memory : (p : Parts) → IntegerRefuses content_refuses p OutOfMemory → ⊥
      not_memory p (inl (inl a)) = let e = a.1 in cc
      not_memory p (inl (inr a)) = let e = a.2 in cc
      not_memory p (inr a) = asks_no_memory p.content a.1

  -- Strict parts.

  -- An integer has one strict form.
  integer_one_form : IsOneForm (IntegerForm Holds)
  integer_one_form =
      universal_one false integer_number (IntegerContent Holds) (λ v c d f g. integer_content_unique v c d f.1 g.1)

  -- Strict parts have one integer.
  integer_one_value : IsOneValue (IntegerForm Holds)
  integer_one_value =
      universal_value false integer_number (IntegerContent Holds) (λ v w c f g. integer_content_one_value v w c f.1 g.1)

  -- They fit an element.
  integer_fits : FitsElement (IntegerForm Holds)
  integer_fits = universal_fits false integer_number (IntegerContent Holds) (omega arith) (λ v c f. f.1.octets)

  -- Strict contents octets in a primitive element meet the constraints.
  made_checks : (v : ℤ) (i : Identifier) (c : List ℕ) → i.constructed ≡ false → IsIntegerContent v c →
      IntegerCheck (made i c)
  made_checks v i c e h = record { primitive = e; counted = (length c, refl); shortest = h.shortest }

  -- In a primitive element of the tag number they have their integer.
  made_has_body : (v : ℤ) (i : Identifier) (c : List ℕ) → i.number ≡ integer_number → i.constructed ≡ false →
      IntegerContent Holds v c → IntegerBody Holds (made i c) v
  made_has_body v i c n e h = record { number = n; primitive = e; value = sym h.1.value; held = h.0 }

  -- Strict parts meet the constraints.
  integer_form_check : FormChecks (IntegerForm Holds) IntegerCheck
  integer_form_check = λ v i c f. made_checks v i c (ap (λ (z : Identifier). z.constructed) f.0) f.1.1

  -- Strict parts have their integer.
  integer_form_body : FormBodies (IntegerForm Holds) (IntegerBody Holds)
  integer_form_body = λ v i c f.
      made_has_body v i c (ap (λ (z : Identifier). z.number) f.0) (ap (λ (z : Identifier). z.constructed) f.0) f.1

  -- Both are so under any class.
  integer_takes_class : (class : ℕ) → FormTakes (IntegerForm Holds) IntegerCheck (IntegerBody Holds) class
  integer_takes_class class = λ v i c f.
      let n : i.number ≡ integer_number = ap (λ (z : Identifier). z.number) f.0 in
      let e : i.constructed ≡ false = ap (λ (z : Identifier). z.constructed) f.0 in
      (made_checks v (of_class class i) c e f.1.1, made_has_body v (of_class class i) c n e f.1)

  -- Integers that a type holds are lawful.
  pub integer_lawful : {S : Type 0} (number : S → ℤ) → IsLawfulElement (integer_element number Holds)
  integer_lawful number = record {
    one_equality = ℤ_set;
    body_values = λ p v o b. b.held;
    form_values = λ v i c f. f.1.0;
    body_one = λ p v w a b. a.value ∙ sym b.value;
    one_form = integer_one_form;
    one_value = integer_one_value;
    form_fits = integer_fits;
    form_check = integer_form_check;
    form_der = λ v i c f. f.1.0;
    form_body = integer_form_body;
  }

-- Writing.

-- what is written follows from the number, and is its strict encoding
module _ {T : Type 0} (number : T → ℤ) (octets : T → List ℕ)
    (strict : (x : T) → IsIntegerContent (number x) (octets x)) where
  -- What is written for an integer is its strict contents octets.
  same_octets : (x : T) (v : ℤ) (c : List ℕ) → number x ≡ v → IsIntegerContent v c → octets x ≡ c
  same_octets x v c e h =
      integer_content_unique v (octets x) c (subst (λ (z : ℤ). IsIntegerContent z (octets x)) e (strict x)) h

  -- An integer is written as one element of the universal class.
  pub integer_written : (Holds : ℤ → Type 0) →
      IsWrittenElement (integer_element number Holds) integer_number octets (λ x. false)
  integer_written Holds = record {
    by_value = λ x y e. same_octets x (number y) (octets y) e (strict y);
    identifier = λ v i c f. f.0;
    form = λ x i c f. same_octets x (number x) c refl f.1.1;
    class = integer_takes_class Holds;
    der = λ x h. (refl, (h, strict x));
    accepted = λ x i c f. refl;
    small = lit< tt;
  }
