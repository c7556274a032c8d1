-- Handles: numbers of one octet under the implicit tag 0 over the explicit tag 1, both of the context-specific class.
use Rattle.std.specs.Prelude.{◌≡◌, ℕ, ℤ, false, pos, List, Result, Err, IfErr}
use Rattle.std.proofs.Common.{lit<, sym, refl, inl, inr}
use Rattle.x690.specs.Octets.{IsOctets}
use Rattle.x690.specs.Identifiers.{Identifier}
use Rattle.x690.specs.Elements.{Parts}
use Rattle.x690.specs.Nested.{IsElement, ElementFault}
use Rattle.asn1_headers.specs.declared.error.Err.{Err as Refusal}
use Rattle.asn1_headers.specs.declared.error.Error.{Error}
use Rattle.asn1_headers.specs.declared.error.Error.TheVariants as errors
use Rattle.asn1_headers.specs.Answers.{Exactly, IsOther, TellsMemory}
use Rattle.asn1_headers.specs.Ber.{max_depth, EndsWithin}
use Rattle.asn1_headers.specs.Error.{ErrorIs}
use Rattle.asn1_headers.specs.Header.Reading.{ber_violation}
use Rattle.asn1_rs.specs.declared.asn1_types.any.Any.{Any}
use Rattle.asn1_rs.specs.Any.{parts_of, BerElementGives}
use Rattle.asn1_rs.specs.Checks.{CheckGives}
use Rattle.asn1_rs.specs.Grammar.{BerWord, DerWord, FormNumber, FormTakes, NoCheck, TakesBody}
use Rattle.asn1_rs.specs.Grammar.Item.{ItemGrammar, IsLawfulItem}
use Rattle.asn1_rs.specs.Integer.{IntegerBody, IntegerCheck, IntegerCheckGives, IntegerForm, IsUnsigned, UnsignedGives}
use Rattle.asn1_rs.specs.Integer.{integer_element}
use Rattle.asn1_rs.specs.Kinds.{ElementGrammar, IsLawfulElement, IsExactCheck, IsExactConversion, InnerGives}
use Rattle.asn1_rs.specs.Kinds.{item_grammar}
use Rattle.asn1_rs.specs.Laws.Integer.{integer_checks, integer_lawful}
use Rattle.asn1_rs.specs.Laws.Integer.Unsigned.{unsigned_converts}
use Rattle.asn1_rs.specs.Laws.Kinds.{inner_takes, lawful_item, other_error}
use Rattle.asn1_rs.specs.Laws.Readers.{all_pass, ber_violation_no_memory, ber_elements, element_exact, element_no_memory}
use Rattle.asn1_rs.specs.Laws.Readers.{passes_all}
use Rattle.asn1_rs.specs.Laws.Tagged.Explicit.{explicit_lawful, explicit_number, explicit_takes_class, explicit_takes}
use Rattle.asn1_rs.specs.Laws.Tagged.Explicit.{explicit_takes_no_memory, explicit_checks}
use Rattle.asn1_rs.specs.Laws.Tagged.Implicit.{implicit_lawful, implicit_form_body, implicit_takes}
use Rattle.asn1_rs.specs.Laws.Tagged.Implicit.{implicit_takes_no_memory, implicit_checked}
use Rattle.asn1_rs.specs.Tagged.Explicit.{ExplicitBody, ExplicitCheck, ExplicitForm, ExplicitConverts}
use Rattle.asn1_rs.specs.Tagged.Explicit.{ExplicitCheckGives}
use Rattle.asn1_rs.specs.Tagged.Explicit.{explicit_grammar}
use Rattle.asn1_rs.specs.Tagged.Implicit.{ImplicitBody, ImplicitCheck, ImplicitForm, ImplicitConverts}
use Rattle.asn1_rs.specs.Tagged.Implicit.{ImplicitCheckGives}
use Rattle.asn1_rs.specs.Traits.{BerGives, OfParts, PassesAll}
use Rattle.asn1_rs.specs.Laws.Words.{strict_ber}

-- the number under the explicit tag
abbrev pub PlaceBody : Parts → ℤ → Type 0
PlaceBody = ExplicitBody 2 1 (BerWord (IntegerBody (IsUnsigned 1)))

-- the constraints of a number under the explicit tag
abbrev pub PlaceCheck : Parts → Type 0
PlaceCheck = ExplicitCheck (IsElement max_depth) IntegerCheck

-- the strict parts of a number under the explicit tag
abbrev pub PlaceForm : ℤ → Identifier → List ℕ → Type 0
PlaceForm = ExplicitForm 2 1 (IntegerForm (IsUnsigned 1))

-- A handle as one element, under both tags. By DER the constraints of the number are looked at too.
abbrev pub handle_element : {T : Type 0} → (T → ℕ) → ElementGrammar T
handle_element number = record {
  Value = ℤ;
  value = λ x. pos (number x);
  IsValue = IsUnsigned 1;
  IsDer = IsUnsigned 1;
  Body = ImplicitBody 2 0 1 PlaceBody;
  Check = ImplicitCheck 1 PlaceCheck;
  Form = ImplicitForm 2 0 PlaceForm;
  allocates = false;
}

-- the words of handles, by DER
abbrev pub HandleByDer : List ℕ → ℤ → Type 0
HandleByDer = DerWord (ImplicitCheck 1 PlaceCheck) (ImplicitBody 2 0 1 PlaceBody)

-- what the conversion of a place may answer, and that of a handle
abbrev pub PlaceConverts : {P : Type 0} → (P → ℕ) → Any → Result P Error → Type 0
PlaceConverts number =
    OfParts (ExplicitConverts 2 1 number (BerGives (OfParts (UnsignedGives 1)) (λ x y. y ≡ x)) (λ x y. y ≡ x))

-- What converting an element to a handle may answer.
abbrev pub HandleConverts : {P W T : Type 0} → (T → W) → (W → P) → (P → ℕ) → Any → Result T Error → Type 0
HandleConverts held place number =
    InnerGives held (ImplicitConverts 2 0 place (record { 0 = 1 }) (PlaceConverts number) (λ x y. y ≡ x))

-- what the check of a handle may answer
abbrev pub HandleCheckGives : CheckGives
HandleCheckGives = ImplicitCheckGives 1 (ExplicitCheckGives BerElementGives IntegerCheckGives)

-- numbers of one octet, and these under the explicit tag
abbrev numbers : ElementGrammar ℕ
numbers = integer_element pos (IsUnsigned 1)

-- numbers of one octet under the explicit tag
abbrev places : ItemGrammar ℕ
places = explicit_grammar 2 1 (λ x. x) (item_grammar numbers)

-- Numbers of one octet are lawful.
numbers_lawful : IsLawfulItem (item_grammar numbers)
numbers_lawful = lawful_item numbers (integer_lawful (IsUnsigned 1) pos)

-- the strict parts of a place are taken under the class of the implicit tag, as it is theirs
place_taken : FormTakes PlaceForm PlaceCheck PlaceBody 2
place_taken = explicit_takes_class 2 1 numbers.Form (BerWord numbers.Body) IntegerCheck
    (strict_ber (item_grammar numbers) numbers_lawful) numbers_lawful.form_check

-- The strict parts under the explicit tag have its number.
place_numbered : FormNumber PlaceForm 1
place_numbered = explicit_number 2 1 numbers.Form

-- Handles are lawful.
pub handle_lawful : {T : Type 0} (number : T → ℕ) → IsLawfulElement (handle_element number)
handle_lawful number =
    let h = implicit_lawful 2 0 1 number places (explicit_lawful 2 1 (λ x. x) (item_grammar numbers) numbers_lawful)
    (lit< tt) place_numbered place_taken in
    record {
      one_equality = h.one_equality;
      body_values = h.body_values;
      form_values = h.form_values;
      body_one = h.body_one;
      one_form = h.one_form;
      one_value = h.one_value;
      form_fits = h.form_fits;
      form_check = h.form_check;
      form_der = h.form_values;
      form_body = implicit_form_body 2 0 PlaceForm 1 PlaceCheck PlaceBody place_numbered place_taken;
    }

-- The constraints of a handle are exactly those of what it holds.
pub handle_checked : IsExactCheck HandleCheckGives (ImplicitCheck 1 PlaceCheck)
handle_checked = implicit_checked 1 (ExplicitCheckGives BerElementGives IntegerCheckGives) PlaceCheck
    (explicit_checks (IsElement max_depth) (ElementFault max_depth) EndsWithin ber_elements ber_violation
    ber_violation_no_memory
    IntegerCheckGives IntegerCheck integer_checks)

-- the number is read by BER
abbrev Reads : List ℕ → Result (List ℕ × ℕ) (Refusal Error) → Type 0
Reads = BerGives (OfParts (UnsignedGives 1)) (λ x y. y ≡ x)

-- Reading a number of one octet by BER is exact.
reads_exact : (input : List ℕ) (answer : Result (List ℕ × ℕ) (Refusal Error)) → IsOctets input → Reads input answer →
    Exactly EndsWithin (BerWord numbers.Body) pos (TellsMemory false (λ x y. y ≡ x)) input answer
reads_exact input answer octets =
    element_exact (IsElement max_depth) (ElementFault max_depth) EndsWithin ber_elements ber_violation PassesAll
    (OfParts (UnsignedGives 1)) (λ x y. y ≡ x) NoCheck numbers.Body pos false (BerWord numbers.Body)
    passes_all (unsigned_converts 1).exact (λ o v w. w) (λ o v w. w) input answer

-- A refusal of such a reading is one of the library's.
reads_no_memory : (input : List ℕ) (answer : Result (List ℕ × ℕ) (Refusal Error)) → Reads input answer →
    IfErr answer (ErrorIs (IsOther (λ x y. y ≡ x)))
reads_no_memory = element_no_memory (IsElement max_depth) (ElementFault max_depth) ber_violation ber_violation_no_memory
    PassesAll
    (OfParts (UnsignedGives 1)) (λ x y. y ≡ x) all_pass
    (other_error (OfParts (UnsignedGives 1)) ((unsigned_converts 1).asks_no_memory refl))

-- memory is not another cause than memory
not_other : IsOther (λ (x y : Error). y ≡ x) errors.OutOfMemory → ⊥
not_other (inl (f, other, e)) = other (sym e)
not_other (inr other) = other refl

-- the conversion is exact
module _ {P W T : Type 0} (held : T → W) (place : W → P) (number : P → ℕ) where
  -- The conversion under the implicit tag is exact.
  takes : (any : Any) (answer : Result W Error) → IsOctets any.content.now →
      ImplicitConverts 2 0 place (record { 0 = 1 }) (PlaceConverts number) (λ x y. y ≡ x) any answer →
      TakesBody (ImplicitBody 2 0 1 PlaceBody) (λ w. pos (number (place w))) false (λ x y. y ≡ x) (parts_of any) answer
  takes = implicit_takes 2 0 place (record { 0 = 1 }) (PlaceConverts number) (λ x y. y ≡ x) PlaceBody
      (λ p. pos (number p)) false
      (λ any. explicit_takes 2 1 number Reads (λ x y. y ≡ x) (BerWord numbers.Body) pos false EndsWithin reads_exact
      (parts_of any))

  -- A refusal of that conversion is one of the library's.
  asks_no_memory : (any : Any) (e : Error) →
      ImplicitConverts 2 0 place (record { 0 = 1 }) (PlaceConverts number) (λ x y. y ≡ x) any (Err e) →
      IsOther (λ x y. y ≡ x) e
  asks_no_memory = implicit_takes_no_memory 2 0 place (record { 0 = 1 }) (PlaceConverts number) (λ x y. y ≡ x)
      (λ any. explicit_takes_no_memory 2 1 number Reads (λ x y. y ≡ x) reads_no_memory (parts_of any))

  -- The conversion to a handle is exact.
  pub handle_converts : IsExactConversion (HandleConverts held place number)
      (handle_element (λ x. number (place (held x))))
  handle_converts = record {
    exact = inner_takes held (item_grammar (handle_element (λ w. number (place w))))
        (ImplicitConverts 2 0 place (record { 0 = 1 }) (PlaceConverts number) (λ x y. y ≡ x)) (λ x y. y ≡ x) takes;
    asks_no_memory = λ none any g. not_other (asks_no_memory any errors.OutOfMemory g);
  }
