-- Subtypes: the values of a type that have a property (X.680 51).
pub mod Laws
pub mod Ready
use Rattle.std.specs.Prelude.{◌≡◌, ◌⊎◌, ℕ, Bool, true, false, IsTrue, List, Result, Ok, Err, codes}
use Rattle.x690.specs.Identifiers.{Identifier}
use Rattle.x690.specs.Elements.{Parts}
use Rattle.asn1_headers.specs.declared.tag.Tag.{Tag}
use Rattle.asn1_headers.specs.declared.error.Err.{Err as Refusal}
use Rattle.asn1_headers.specs.declared.error.Err.TheVariants.{Error as refused}
use Rattle.asn1_headers.specs.declared.error.Error.{Error}
use Rattle.asn1_headers.specs.Error.{IsInvalidValue}
use Rattle.asn1_rs.specs.declared.asn1_types.any.Any.{Any}
use Rattle.asn1_rs.specs.Grammar.Item.{ItemGrammar}

-- A value that is that of an item which has the property.
abbrev pub IsKept : {S V : Type 0} → (S → V) → (S → Bool) → V → Type 0
IsKept {S} value keeps v = (x : S) × (value x ≡ v) × IsTrue (keeps x)

-- Whether a value has the property goes by the value that is written of it.
abbrev pub GoesByValue : {S V : Type 0} → (S → V) → (S → Bool) → Type 0
GoesByValue {S} value keeps = (x y : S) → value x ≡ value y → IsTrue (keeps x) → IsTrue (keeps y)

-- The grammar of a type, with those of its values alone that have the property. What the constraints of DER ask is
-- what they ask of the type.
abbrev pub refined_grammar : {S T : Type 0} → (T → S) → (S → Bool) → ItemGrammar S → ItemGrammar T
refined_grammar held keeps G = record {
  Value = G.Value;
  value = λ x. G.value (held x);
  IsValue = λ v. G.IsValue v × IsKept G.value keeps v;
  IsDer = λ v. G.IsDer v × IsKept G.value keeps v;
  Der = λ o v. G.Der o v × IsKept G.value keeps v;
  Body = λ p v. G.Body p v × IsKept G.value keeps v;
  Check = G.Check;
  Form = λ v i c. G.Form v i c × IsKept G.value keeps v;
  allocates = G.allocates;
}

-- The one refusal of a value that lacks the property, with the tag number of its type.
abbrev pub IsOutside : Tag → Error → Type 0
IsOutside tag = IsInvalidValue tag (codes "outside the subtype")

-- that refusal, as an error of another type
abbrev pub TellsOutside : {E : Type 0} → (Error → Type 0) → (Error → E → Type 0) → E → Type 0
TellsOutside own from e = (f : Error) × own f × from f e

-- What it may refuse an element with: what the type refuses it with; or the type takes it with a value that lacks the
-- property, which has a refusal of its own.
abbrev pub RefinedRefuses : {S E : Type 0} → (S → Bool) → (Error → Type 0) → (Error → E → Type 0) →
    (Any → Result S E → Type 0) → Any → E → Type 0
RefinedRefuses {S} keeps own from takes any e =
    takes any (Err e) ⊎ ((x : S) × takes any (Ok x) × (keeps x ≡ false) × TellsOutside own from e)

-- What the conversion to a subtype may answer: a value that the type takes and that has the property, or such a refusal.
abbrev pub RefinedConverts : {S T E : Type 0} → (T → S) → (S → Bool) → (Error → Type 0) → (Error → E → Type 0) →
    (Any → Result S E → Type 0) → Any → Result T E → Type 0
RefinedConverts held keeps own from takes any (Ok x) = takes any (Ok (held x)) × IsTrue (keeps (held x))
RefinedConverts held keeps own from takes any (Err e) = RefinedRefuses keeps own from takes any e

-- The same of its reader by DER.
abbrev pub RefinedReads : {S T E : Type 0} → (T → S) → (S → Bool) → (Error → Type 0) → (Error → E → Type 0) →
    (List ℕ → Result (List ℕ × S) (Refusal E) → Type 0) → List ℕ → Result (List ℕ × T) (Refusal E) → Type 0
RefinedReads held keeps own from reads input (Ok x) =
    reads input (Ok (x.0, held x.1)) × IsTrue (keeps (held x.1))
RefinedReads {S} {T} {E} held keeps own from reads input (Err r) =
    reads input (Err r) ⊎ ((x : List ℕ × S) × reads input (Ok x) × (keeps x.1 ≡ false) ×
    ((e : E) × TellsOutside own from e × (r ≡ refused e)))
