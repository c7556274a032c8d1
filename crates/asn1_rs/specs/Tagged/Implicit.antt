-- Values under an implicit tag, whose class and number stand in place of the value's own (X.690 8.14.3).
use Rattle.std.specs.Prelude.{◌≡◌, ℕ, ◌<◌, ◌^◌, List, Result, Ok, Err}
use Rattle.x690.specs.Identifiers.{Identifier}
use Rattle.x690.specs.Elements.{Parts}
use Rattle.asn1_rs.specs.declared.asn1_types.any.Any.{Any}
use Rattle.asn1_headers.specs.declared.error.Error.{Error}
use Rattle.asn1_headers.specs.declared.tag.Tag.{Tag}
use Rattle.asn1_rs.specs.Checks.{CheckGives, IsCounted, ◌before◌, has_number, is_counted}
use Rattle.asn1_rs.specs.Grammar.{DerWord, NoCheck}
use Rattle.asn1_rs.specs.Grammar.Item.{ItemGrammar}
use Rattle.asn1_rs.specs.Tagged.{has_class}
use Rattle.asn1_rs.specs.Tagged.Parser.{IsUnder, ChecksAndConverts}

-- the same parts under another tag number
abbrev pub under : ℕ → Parts → Parts
under number p = record {
  id = record { class = p.id.class; constructed = p.id.constructed; number = number };
  form = p.form;
  content = p.content;
}

-- the tag number, the class, in this order
abbrev pub implicit_checks : ℕ → ℕ → CheckGives
implicit_checks class number = has_number number before has_class class

-- An element under the tag that is one of the value under the tag number of its type.
pub record ImplicitBody {V : Type 0} (class number own : ℕ) (Body : Parts → V → Type 0) (p : Parts)
    (v : V) : Type 0 where
  pub tag : implicit_checks class number p (Ok tt)
  pub body : Body (under own p) v

-- An element of definite length that meets the constraints under the tag number of the value's type.
pub record ImplicitCheck (own : ℕ) (Check : Parts → Type 0) (p : Parts) : Type 0 where
  pub counted : IsCounted p
  pub checked : Check (under own p)

-- the constructed bit of this identifier, under the tag
abbrev pub implicit_identifier : ℕ → ℕ → Identifier → Identifier
implicit_identifier class number own = record { class = class; constructed = own.constructed; number = number }

-- The strict parts: those of the value, under a tag of one of the four classes and of a number that an element can
-- have.
pub record ImplicitForm {V : Type 0} (class number : ℕ) (Form : V → Identifier → List ℕ → Type 0) (v : V)
    (i : Identifier) (c : List ℕ) : Type 0 where
  pub is_class : class < 4
  pub is_number : number < 2 ^ 32
  pub own : Identifier
  pub id_is : i ≡ implicit_identifier class number own
  pub form : Form v own c

-- Words by BER are elements by BER with this body, words by DER the elements of definite length with it. The value's
-- constraints are not among them. A value is in DER form where three things hold. The class is one of the four. The
-- number is one that an element can have, as each `u32` is. The value within is in DER form.
abbrev pub implicit_grammar : {S T : Type 0} → ℕ → ℕ → ℕ → (T → S) → ItemGrammar S → ItemGrammar T
implicit_grammar class number own inner G = record {
  Value = G.Value;
  value = λ t. G.value (inner t);
  IsValue = G.IsValue;
  IsDer = λ v. (class < 4) × (number < 2 ^ 32) × G.IsDer v;
  Der = DerWord NoCheck (ImplicitBody class number own G.Body);
  Body = ImplicitBody class number own G.Body;
  Check = ImplicitCheck own G.Check;
  Form = ImplicitForm class number G.Form;
  allocates = G.allocates;
}

-- what converting an element under that tag number may answer: what holds the value, or the value's own refusal
abbrev pub ConvertsUnder : {T W E : Type 0} → (W → T) → Tag → (Any → Result T E → Type 0) → Any → Result W E → Type 0
ConvertsUnder inner own converts any (Ok w) = (other : Any) × IsUnder own any other × converts other (Ok (inner w))
ConvertsUnder inner own converts any (Err e) = (other : Any) × IsUnder own any other × converts other (Err e)

-- what the conversion of an element may answer: the refusal of the tag, or else what the value's conversion answers
abbrev pub ImplicitConverts : {T W E : Type 0} → ℕ → ℕ → (W → T) → Tag → (Any → Result T E → Type 0) →
    (Error → E → Type 0) → Any → Result W E → Type 0
ImplicitConverts class number inner own converts from =
    ChecksAndConverts (implicit_checks class number) (ConvertsUnder inner own converts) from

-- what a check of an element may answer that looks at it under that tag number
abbrev pub ChecksUnder : ℕ → CheckGives → CheckGives
ChecksUnder own check p answer = check (under own p) answer

-- what the check of an element under the tag may answer
abbrev pub ImplicitCheckGives : ℕ → CheckGives → CheckGives
ImplicitCheckGives own check = is_counted before ChecksUnder own check
