-- What a type says of its values and grammars, and what makes that lawful.
use Rattle.std.specs.Prelude.{ℕ, Bool, List}
use Rattle.x690.specs.Identifiers.{Identifier}
use Rattle.x690.specs.Elements.{Parts, ArePossible, IsDerElement}
use Rattle.x690.specs.Joined.{IsPrefixFree}
use Rattle.asn1_rs.specs.Grammar.Form.{IsOneForm, IsOneValue, FitsElement, HasValues, IsStrict, WritesByValue}
use Rattle.asn1_rs.specs.Grammar.Form.{WritesForm, HasForm}
use Rattle.asn1_rs.specs.Grammar.{IsOneBody, BerWord, FormBodies, FormChecks}
use Rattle.asn1_rs.specs.ToDer.{Writing, IsWritable}

-- The values of a type, with plain equality. The value of an item in hand. Which values are the type's, as the numbers
-- in its range, and which are in DER form. The words by DER, with their values. What the conversion finds in an
-- element's parts, and what the constraints ask of them. The identifier and the contents octets of a value in DER form.
-- Whether reading may allocate. It is one record, and so are its laws: a list says `list_grammar 16 items T.grammar` in
-- place of a dozen members.
pub record ItemGrammar (S : Type 0) : Type 1 where
  pub Value : Type 0
  pub value : S → Value
  pub IsValue : Value → Type 0
  pub IsDer : Value → Type 0
  pub Der : List ℕ → Value → Type 0
  pub Body : Parts → Value → Type 0
  pub Check : Parts → Type 0
  pub Form : Value → Identifier → List ℕ → Type 0
  pub allocates : Bool

-- The words by BER, with their values: the elements that have a body, whatever the type.
abbrev pub ber_words : {S : Type 0} (G : ItemGrammar S) → List ℕ → G.Value → Type 0
ber_words G = BerWord G.Body

-- Two values are equal in one way at most. So they are equal where they are up to a proof that is not in hand. A word
-- by DER is an element of definite length, as each by BER is an element. Words, bodies and strict parts have values of
-- the type. One word alone begins an input, and a body has one value. A value has one strict identifier and content.
-- These fit an element, meet the constraints and have one value, which is in DER form. The strict encoding that they
-- make is a word by BER and by DER. `form_check` is asked of a type without a check too. An implicit tag over a list
-- asks it of the list, whatever its items are.
pub record IsLawfulItem {S : Type 0} (G : ItemGrammar S) : Type 0 where
  pub one_equality : IsSet G.Value
  pub der_element : (o : List ℕ) (v : G.Value) → G.Der o v → (p : Parts) × IsDerElement o p
  pub der_values : (o : List ℕ) (v : G.Value) → G.Der o v → G.IsValue v
  pub body_values : (p : Parts) (v : G.Value) → ArePossible p → G.Body p v → G.IsValue v
  pub form_values : HasValues G.Form G.IsValue
  pub der_one : IsPrefixFree G.Der
  pub body_one : IsOneBody G.Body
  pub one_form : IsOneForm G.Form
  pub one_value : IsOneValue G.Form
  pub form_fits : FitsElement G.Form
  pub form_check : FormChecks G.Form G.Check
  pub form_body : FormBodies G.Form G.Body
  pub form_der : HasValues G.Form G.IsDer
  pub strict_der : (v : G.Value) (o : List ℕ) → IsStrict G.Form v o → G.Der o v

-- What is written is told of each item and follows from its value. A value that has strict parts is written as its
-- strict encoding. A value in DER form whose contents octets fit in memory has such parts, and no refusal of its own.
-- Only its length, its writer, or want of memory refuses it.
pub record IsLawfulWriting {S : Type 0} (G : ItemGrammar S) (w : Writing S) : Type 0 where
  pub tells_all : (x : S) → w.tells x
  pub by_value : WritesByValue G.value w
  pub form : WritesForm G.value G.Form w
  pub der_form : HasForm G.value G.IsDer G.Form w
  pub der_writable : (x : S) → G.IsDer (G.value x) → IsWritable w x

-- what holds one item, and nothing else, has the values and grammars of that item
abbrev pub by_inner : {S T : Type 0} → (T → S) → ItemGrammar S → ItemGrammar T
by_inner held G = record {
  Value = G.Value;
  value = λ x. G.value (held x);
  IsValue = G.IsValue;
  IsDer = G.IsDer;
  Der = G.Der;
  Body = G.Body;
  Check = G.Check;
  Form = G.Form;
  allocates = G.allocates;
}
