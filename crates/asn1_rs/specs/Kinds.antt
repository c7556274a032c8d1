-- What a type says that is read as one element, checked and converted.
pub mod Writing
use Rattle.std.specs.Prelude.{◌≡◌, ℕ, Bool, false, List, Result, Ok, Err}
use Rattle.x690.specs.Octets.{IsOctets}
use Rattle.x690.specs.Identifiers.{Identifier}
use Rattle.x690.specs.Elements.{Parts, ArePossible}
use Rattle.asn1_rs.specs.declared.asn1_types.any.Any.{Any}
use Rattle.asn1_headers.specs.declared.error.Err.{Err as Refusal}
use Rattle.asn1_headers.specs.declared.error.Error.{Error}
use Rattle.asn1_headers.specs.declared.error.Error.TheVariants.{OutOfMemory}
use Rattle.asn1_rs.specs.Any.{parts_of}
use Rattle.asn1_rs.specs.Grammar.Form.{IsOneForm, IsOneValue, FitsElement, HasValues}
use Rattle.asn1_rs.specs.Grammar.{IsOneBody, DerWord, TakesBody, Checks, FormChecks, FormBodies}
use Rattle.asn1_rs.specs.Grammar.Item.{ItemGrammar}

-- Its values, and which are in DER form; the value of a body, what the check asks, and the strict parts of a value.
pub record ElementGrammar (S : Type 0) : Type 1 where
  pub Value : Type 0
  pub value : S → Value
  pub IsValue : Value → Type 0
  pub IsDer : Value → Type 0
  pub Body : Parts → Value → Type 0
  pub Check : Parts → Type 0
  pub Form : Value → Identifier → List ℕ → Type 0
  pub allocates : Bool

-- Two values are equal in one way at most. Bodies and strict parts have values of the type, a body has one value, a
-- value one strict identifier and one strict content. These fit an element, meet the check and have the value, which is
-- in DER form.
pub record IsLawfulElement {S : Type 0} (G : ElementGrammar S) : Type 0 where
  pub one_equality : IsSet G.Value
  pub body_values : (p : Parts) (v : G.Value) → ArePossible p → G.Body p v → G.IsValue v
  pub form_values : HasValues G.Form G.IsValue
  pub body_one : IsOneBody G.Body
  pub one_form : IsOneForm G.Form
  pub one_value : IsOneValue G.Form
  pub form_fits : FitsElement G.Form
  pub form_check : FormChecks G.Form G.Check
  pub form_der : HasValues G.Form G.IsDer
  pub form_body : FormBodies G.Form G.Body

-- its words by BER are the elements that have a body, and those by DER the ones of definite length that pass the check
abbrev pub item_grammar : {S : Type 0} → ElementGrammar S → ItemGrammar S
item_grammar G = record {
  Value = G.Value;
  value = G.value;
  IsValue = G.IsValue;
  IsDer = G.IsDer;
  Der = DerWord G.Check G.Body;
  Body = G.Body;
  Check = G.Check;
  Form = G.Form;
  allocates = G.allocates;
}

-- The check passes exactly the parts that meet the constraints, and no refusal of it reports out of memory.
pub record IsExactCheck (check : Parts → Result (Unit {0}) Error → Type 0) (Check : Parts → Type 0) : Type 0 where
  pub exact : (p : Parts) (answer : Result (Unit {0}) Error) → check p answer → Checks Check p answer
  pub asks_no_memory : (p : Parts) → check p (Err OutOfMemory) → ⊥

-- The conversion takes exactly the elements whose parts have a body, with its value.
-- Where it does not allocate, no refusal of it reports out of memory.
pub record IsExactConversion {S : Type 0} (gives : Any → Result S Error → Type 0) (G : ElementGrammar S) : Type 0 where
  pub exact : (any : Any) (answer : Result S Error) → IsOctets any.content.now → gives any answer →
      TakesBody G.Body G.value G.allocates (λ (x y : Error). y ≡ x) (parts_of any) answer
  pub asks_no_memory : G.allocates ≡ false → (any : Any) → gives any (Err OutOfMemory) → ⊥

-- what holds one item, and nothing else, has the values and the elements of that item
abbrev pub by_inner_element : {S T : Type 0} → (T → S) → ElementGrammar S → ElementGrammar T
by_inner_element held G = record {
  Value = G.Value;
  value = λ x. G.value (held x);
  IsValue = G.IsValue;
  IsDer = G.IsDer;
  Body = G.Body;
  Check = G.Check;
  Form = G.Form;
  allocates = G.allocates;
}

-- a conversion that answers what holds the item that another one answers
abbrev pub InnerGives : {S T E : Type 0} → (T → S) → (Any → Result S E → Type 0) → Any → Result T E → Type 0
InnerGives held gives any (Ok x) = gives any (Ok (held x))
InnerGives held gives any (Err e) = gives any (Err e)

-- a reader that answers it
abbrev pub InnerReads : {S T E : Type 0} → (T → S) → (List ℕ → Result (List ℕ × S) (Refusal E) → Type 0) → List ℕ →
    Result (List ℕ × T) (Refusal E) → Type 0
InnerReads held reads input (Ok x) = reads input (Ok (x.0, held x.1))
InnerReads held reads input (Err r) = reads input (Err r)
