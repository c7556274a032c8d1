-- Values with the header of their tag in hand: its class and its number are told by the value,
-- not by the type (X.690 8.14).
use Rattle.std.specs.Prelude.{◌≡◌, ℕ, ◌<◌, ◌^◌, Bool, true, List}
use Rattle.x690.specs.Identifiers.{Identifier}
use Rattle.x690.specs.Elements.{Parts, IsDerElement}
use Rattle.asn1_headers.specs.Answers.{HasPrefix}
use Rattle.asn1_rs.specs.Grammar.{DerWord, NoCheck}
use Rattle.asn1_rs.specs.Grammar.Item.{ItemGrammar, ber_words}
use Rattle.asn1_rs.specs.Tagged.Explicit.{ExplicitCheck, ExplicitForm}
use Rattle.asn1_rs.specs.Tagged.Implicit.{under, ImplicitCheck, ImplicitForm}

-- What it is as a value: the identifier of the header, and the value under the tag.
abbrev pub headed_value : {S T V : Type 0} → (T → Identifier) → (T → S) → (S → V) → T → Identifier × V
headed_value identifier inner value t = (identifier t, value (inner t))

-- an identifier that an element can have
pub record IsBorne (i : Identifier) : Type 0 where
  pub class : i.class < 4
  pub number : i.number < 2 ^ 32

-- An element of this identifier, whatever it is, whose contents octets begin with a word of the value.
pub record HeadedBody {V : Type 0} (G : List ℕ → V → Type 0) (p : Parts) (v : Identifier × V) : Type 0 where
  pub id : v.0 ≡ p.id
  pub rest : List ℕ
  pub inner : HasPrefix G p.content v.1 rest

-- An element of this identifier, whatever it is, whose contents octets are a word of the value and nothing else.
pub record HeadedWhole {V : Type 0} (G : List ℕ → V → Type 0) (p : Parts) (v : Identifier × V) : Type 0 where
  pub id : v.0 ≡ p.id
  pub inner : G p.content v.1

-- the strict parts of the value under the explicit tag of that class and number, where the identifier is theirs
abbrev pub HeadedForm : {V : Type 0} → (V → Identifier → List ℕ → Type 0) → Identifier × V → Identifier →
    List ℕ → Type 0
HeadedForm Form v i c = (v.0 ≡ i) × ExplicitForm (v.0).class (v.0).number Form v.1 i c

-- By BER the contents octets of an element begin with a word of the value; what follows it there is not looked at. By
-- DER the length is definite, and the contents octets are a word of the value. A value is in DER form where its header
-- is constructed, and the value within in DER form.
abbrev pub explicit_headed : {S T : Type 0} → (T → Identifier) → (T → S) → ItemGrammar S → ItemGrammar T
explicit_headed identifier inner G = record {
  Value = Identifier × G.Value;
  value = headed_value identifier inner G.value;
  IsValue = λ v. IsBorne v.0 × G.IsValue v.1;
  IsDer = λ v. IsBorne v.0 × ((v.0).constructed ≡ true) × G.IsDer v.1;
  Der = DerWord NoCheck (HeadedWhole G.Der);
  Body = HeadedBody (ber_words G);
  Check = ExplicitCheck IsDerElement G.Check;
  Form = HeadedForm G.Form;
  allocates = G.allocates;
}

-- An element of this identifier, whatever it is, that has the value under the tag number of the value's type.
pub record UnderBody {V : Type 0} (own : ℕ) (Body : Parts → V → Type 0) (p : Parts) (v : Identifier × V) : Type 0 where
  pub id : v.0 ≡ p.id
  pub body : Body (under own p) v.1

-- an element that meets the constraints and has the value
abbrev pub CheckedBody : {V : Type 0} → (Parts → Type 0) → (Parts → V → Type 0) → Parts → V → Type 0
CheckedBody Check Body p v = Check p × Body p v

-- the strict parts of the value under the implicit tag of that class and number, where the identifier is theirs
abbrev pub UnderForm : {V : Type 0} → (V → Identifier → List ℕ → Type 0) → Identifier × V → Identifier → List ℕ → Type 0
UnderForm Form v i c = (v.0 ≡ i) × ImplicitForm (v.0).class (v.0).number Form v.1 i c

-- the constructed bit is that of the value's own strict parts
abbrev pub HasInnerForm : {V : Type 0} → (V → Identifier → List ℕ → Type 0) → Bool → V → Type 0
HasInnerForm Form constructed v = (i : Identifier) (c : List ℕ) → Form v i c → constructed ≡ i.constructed

-- Words by BER are elements by BER with this body. Words by DER are the elements of definite length with it that meet
-- the constraints of the value. A value is in DER form where its header has the constructed bit of the value within,
-- and that is in DER form.
abbrev pub implicit_headed : {S T : Type 0} → (T → Identifier) → ℕ → (T → S) → ItemGrammar S → ItemGrammar T
implicit_headed identifier own inner G = record {
  Value = Identifier × G.Value;
  value = headed_value identifier inner G.value;
  IsValue = λ v. IsBorne v.0 × G.IsValue v.1;
  IsDer = λ v. IsBorne v.0 × HasInnerForm G.Form (v.0).constructed v.1 × G.IsDer v.1;
  Der = DerWord NoCheck (UnderBody own (CheckedBody G.Check G.Body));
  Body = UnderBody own G.Body;
  Check = ImplicitCheck own G.Check;
  Form = UnderForm G.Form;
  allocates = G.allocates;
}
