-- Values that keep the octets of their element. Their value is what the element says, and the value that was read of
-- it. So the octets are part of it: the element with the shortest header.
pub mod Held
pub mod Laws
use Rattle.std.specs.Prelude.{◌≡◌, ◌⊎◌, true, ℕ, List, ◌++◌, Result, Ok, Err}
use Rattle.x690.specs.Identifiers.{Identifier}
use Rattle.x690.specs.Elements.{Parts, IsStrictElement}
use Rattle.x690.specs.Strict.{element_octets}
use Rattle.asn1_headers.specs.declared.error.Err.{Err as Refusal}
use Rattle.asn1_headers.specs.declared.error.Error.{Error}
use Rattle.asn1_headers.specs.declared.error.Error.TheVariants.{OutOfMemory}
use Rattle.asn1_rs.specs.declared.asn1_types.any.Any.{Any}
use Rattle.asn1_rs.specs.Any.{DerElementGives, parts_of}
use Rattle.asn1_rs.specs.Any.Value.{ElementValue, IsElementValue, element_of}
use Rattle.asn1_rs.specs.Any.Writing.{element_writing}
use Rattle.asn1_rs.specs.Grammar.Item.{ItemGrammar}
use Rattle.asn1_rs.specs.ToDer.{Writing, inner_writing, whole_octets}

-- what the parts of an element say, however its length was written
abbrev pub said_by : Parts → ElementValue
said_by p = record { id = p.id; content = p.content }

-- The octets of a word by DER are this very element, and a word of the value.
pub record SignedWord {V : Type 0} (Der : List ℕ → V → Type 0) (octets : List ℕ) (v : ElementValue × V) : Type 0 where
  pub element : IsStrictElement octets (v.0).id (v.0).content
  pub word : Der octets v.1

-- By BER the element has these parts, and they have the value. How its length was written is not told.
pub record SignedBody {V : Type 0} (Body : Parts → V → Type 0) (p : Parts) (v : ElementValue × V) : Type 0 where
  pub is : v.0 ≡ said_by p
  pub body : Body p v.1

-- The strict parts are those of the element, and strict parts of the value.
pub record SignedForm {V : Type 0} (Form : V → Identifier → List ℕ → Type 0) (v : ElementValue × V) (id : Identifier)
    (content : List ℕ) : Type 0 where
  pub is : v.0 ≡ record { id = id; content = content }
  pub form : Form v.1 id content

-- A word is a word of the value that was read, beside what its element says. A value is in DER form where its octets are
-- the strict encoding of the value that was read. Reading by BER copies the octets.
abbrev pub signed_grammar : {S T : Type 0} → (S → Any) → (S → T) → ItemGrammar T → ItemGrammar S
signed_grammar element inner G = record {
  Value = ElementValue × G.Value;
  value = λ s. (element_of (element s), G.value (inner s));
  IsValue = λ v. IsElementValue v.0 × G.IsValue v.1;
  IsDer = λ v. ∥ SignedForm G.Form v (v.0).id (v.0).content ∥₁;
  Der = SignedWord G.Der;
  Body = SignedBody G.Body;
  Check = G.Check;
  Form = SignedForm G.Form;
  allocates = true;
}

-- what is written: the element
abbrev pub signed_writing : {S : Type 0} → (S → Any) → Writing S
signed_writing element = inner_writing element element_writing

-- What the reader by DER may answer: the value that is read of the octets, and the element at their front; or the
-- refusal of the value.
abbrev pub SignedReads : {S T : Type 0} → (S → Any) → (S → T) →
    (List ℕ → Result (List ℕ × T) (Refusal Error) → Type 0) → List ℕ → Result (List ℕ × S) (Refusal Error) → Type 0
SignedReads element inner reads input (Ok x) =
    DerElementGives input (Ok (x.0, element x.1)) × reads input (Ok (x.0, inner x.1))
SignedReads element inner reads input (Err r) = reads input (Err r)

-- What the conversion of an element may answer: its value beside its parts; or the refusal of the value, or memory.
abbrev pub SignedConverts : {S T : Type 0} → (S → Any) → (S → T) → (Any → Result T Error → Type 0) → Any →
    Result S Error → Type 0
SignedConverts element inner takes any (Ok x) = (parts_of (element x) ≡ parts_of any) × takes any (Ok (inner x))
SignedConverts element inner takes any (Err e) = (e ≡ OutOfMemory) ⊎ takes any (Err e)
