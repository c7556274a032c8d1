-- Numbers of one octet that are compared by a part of what they are.
use native.Mathlib.Nat.{ℕ_set}
use Rattle.std.specs.Prelude.{◌≡◌, ◌%◌, ℕ, false, List, Result, Ok, Err, pos}
use Rattle.std.proofs.Common.{◌∙◌, ap, sym, subst, refl, inl, inr}
use Rattle.asn1_rs.specs.Prelude.{Error, IsOctets, parts_of}
use Rattle.x690.specs.Integers.{unsigned_octets}
use Rattle.x690.specs.Laws.Integers.Unsigned.{unsigned_octets_content}
use Rattle.asn1_rs.specs.declared.asn1_types.any.Any.{Any}
use Rattle.asn1_rs.specs.Grammar.{TakesBody}
use Rattle.asn1_rs.specs.Integer.{IntegerBody, IntegerCheck, IntegerCheckGives, IntegerForm, IsUnsigned, UnsignedGives}
use Rattle.asn1_rs.specs.Integer.{integer_element, integer_number}
use Rattle.asn1_rs.specs.Kinds.{ElementGrammar, InnerGives, IsExactConversion, IsLawfulElement}
use Rattle.asn1_rs.specs.Kinds.Writing.{IsWrittenElement, universal_identifier}
use Rattle.asn1_rs.specs.Laws.Integer.{integer_checks, integer_lawful, integer_written}
use Rattle.asn1_rs.specs.Laws.Integer.Unsigned.{unsigned_converts}
use Rattle.asn1_rs.specs.LeafReading.{LeafReading, IsExactReading}
use Rattle.asn1_rs.specs.Traits.{OfParts}
use Rattle.asn1_rs_members.specs.declared.remainder.Remainder.{Remainder}

-- the whole number
abbrev pub whole : ℕ → ℕ
whole n = n

-- its remainder by 10
abbrev pub remainder : ℕ → ℕ
remainder n = n % 10

-- Numbers of one value have one strict encoding.
abbrev pub HaveOneEncoding : (ℕ → ℕ) → Type 0
HaveOneEncoding value = (m n : ℕ) → value m ≡ value n → unsigned_octets m ≡ unsigned_octets n

-- a value that a number of one octet has
abbrev pub IsOfOneOctet : (ℕ → ℕ) → ℕ → Type 0
IsOfOneOctet value v = (n : ℕ) × (v ≡ value n) × IsUnsigned 1 (pos n)

-- numbers of one octet as elements, the values of which are these parts of the numbers
abbrev pub valued : (ℕ → ℕ) → ElementGrammar Remainder
valued value = record {
  Value = ℕ;
  value = λ x. value x.0;
  IsValue = IsOfOneOctet value;
  IsDer = IsOfOneOctet value;
  Body = λ p v. (n : ℕ) × (v ≡ value n) × IntegerBody (IsUnsigned 1) p (pos n);
  Check = IntegerCheck;
  Form = λ v i c. (n : ℕ) × (v ≡ value n) × IntegerForm (IsUnsigned 1) (pos n) i c;
  allocates = false;
}

-- how such a number is read
abbrev pub valued_reading : (ℕ → ℕ) → LeafReading Remainder
valued_reading value = record {
  element = valued value;
  gives = InnerGives (λ x. x.0) (OfParts (UnsignedGives 1));
  check = IntegerCheckGives;
}

-- integers of one octet are lawful
small_lawful : IsLawfulElement (integer_element pos (IsUnsigned 1))
small_lawful = integer_lawful (IsUnsigned 1) pos

-- what is written for them
small_written : IsWrittenElement (integer_element pos (IsUnsigned 1)) integer_number unsigned_octets (λ x. false)
small_written = integer_written pos unsigned_octets unsigned_octets_content (IsUnsigned 1)

-- natural numbers are the same where the integers are
same_number : (m n : ℕ) → pos m ≡ pos n → m ≡ n
same_number m n e = cc

module _ (value : ℕ → ℕ) where
  -- what the conversion finds is the value of the number that it finds
  valued_converts : IsExactConversion (InnerGives (λ x. x.0) (OfParts (UnsignedGives 1))) (valued value)
  valued_converts = record {
    exact = exact;
    asks_no_memory = λ none any h. (unsigned_converts 1).asks_no_memory none any h;
  }
    where
      exact : (any : Any) (answer : Result Remainder Error) → IsOctets any.content.now →
          InnerGives (λ (x : Remainder). x.0) (OfParts (UnsignedGives 1)) any answer →
          TakesBody (valued value).Body (valued value).value false (λ (x y : Error). y ≡ x) (parts_of any) answer
      exact any (Ok x) o h = (x.0, refl, (unsigned_converts 1).exact any (Ok x.0) o h)
      exact any (Err e) o h = elim ((unsigned_converts 1).exact any (Err e) o h) [
        | inl a ↦ inl a
        | inr none ↦ inr (λ v b. none (pos b.0) b.2)
      ]

  module _ (one : HaveOneEncoding value) where
    -- Such elements are lawful where numbers of one value have one strict encoding.
    valued_lawful : IsLawfulElement (valued value)
    valued_lawful = record {
      one_equality = ℕ_set;
      body_values = λ p v o b. (b.0, b.1, b.2.held);
      form_values = λ v i c f. (f.0, f.1, f.2.1.0);
      body_one = λ p v w a b. a.1 ∙
          ap value (same_number a.0 b.0 (small_lawful.body_one p (pos a.0) (pos b.0) a.2 b.2)) ∙ sym b.1;
      one_form = λ v i j c d f g. (
        f.2.0 ∙ sym g.2.0,
        sym (small_written.form f.0 i c f.2) ∙ one f.0 g.0 (sym f.1 ∙ g.1) ∙ small_written.form g.0 j d g.2,
      );
      one_value = λ v w i c f g. f.1 ∙
          ap value (same_number f.0 g.0 (small_lawful.one_value (pos f.0) (pos g.0) i c f.2 g.2)) ∙ sym g.1;
      form_fits = λ v i c f. small_lawful.form_fits (pos f.0) i c f.2;
      form_check = λ v i c f. small_lawful.form_check (pos f.0) i c f.2;
      form_der = λ v i c f. (f.0, f.1, f.2.1.0);
      form_body = λ v i c f. (f.0, f.1, small_lawful.form_body (pos f.0) i c f.2);
    }

    -- So is reading them exact.
    pub valued_exact : IsExactReading (valued_reading value)
    valued_exact = record { lawful = valued_lawful; checked = integer_checks; converts = valued_converts }

    -- They are written as the numbers.
    pub valued_written : IsWrittenElement (valued value) integer_number (λ x. unsigned_octets x.0) (λ x. false)
    valued_written = record {
      by_value = λ x y e. one x.0 y.0 e;
      identifier = λ v i c f. f.2.0;
      form = λ x i c f. one x.0 f.0 f.1 ∙ small_written.form f.0 i c f.2;
      class = λ k v i c f. let t = small_written.class k (pos f.0) i c f.2 in (t.0, (f.0, f.1, t.1));
      der = λ x d. (
        d.0,
        d.1,
        subst (λ (c : List ℕ).
            IntegerForm (IsUnsigned 1) (pos d.0) (universal_identifier integer_number) c)
            (one d.0 x.0 (sym d.1)) (small_written.der d.0 d.2),
      );
      accepted = λ x i c f. refl;
      small = small_written.small;
    }
