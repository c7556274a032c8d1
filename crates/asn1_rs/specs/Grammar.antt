-- Grammars of types that are read as one element, checked and converted.
pub mod Form
pub mod Item
use Rattle.std.specs.Prelude.{ℕ, Bool, List, [], ◌++◌, ◌≡◌, ◌⊎◌, length, Result, Ok, Err, IsTrue}
use Rattle.x690.specs.Identifiers.{Identifier}
use Rattle.x690.specs.Lengths.{definite}
use Rattle.x690.specs.Elements.{Parts, IsDerElement}
use Rattle.x690.specs.Nested.{IsElement}
use Rattle.asn1_headers.specs.declared.error.Error.{Error}
use Rattle.asn1_headers.specs.declared.error.Error.TheVariants.{OutOfMemory}
use Rattle.asn1_headers.specs.Ber.{max_depth}

-- one element, whose parts meet the check and have the value by the body
abbrev pub ElementWord : {V : Type 0} → (List ℕ → Parts → Type 0) → (Parts → Type 0) → (Parts → V → Type 0) →
    List ℕ → V → Type 0
ElementWord ElementOf Check Body o v = (p : Parts) × ElementOf o p × Check p × Body p v

-- a check that every element meets
abbrev pub NoCheck : Parts → Type 0
NoCheck p = Unit {0}

-- The words by BER of a type with this body.
abbrev pub BerWord : {V : Type 0} → (Parts → V → Type 0) → List ℕ → V → Type 0
BerWord Body = ElementWord (IsElement max_depth) NoCheck Body

-- by DER its length is definite, and the constraints are met
abbrev pub DerWord : {V : Type 0} → (Parts → Type 0) → (Parts → V → Type 0) → List ℕ → V → Type 0
DerWord Check Body = ElementWord IsDerElement Check Body

-- The conversion takes an element exactly where the body has a value, and gives it.
-- Where it allocates, out of memory may be reported.
abbrev pub TakesBody : {T V E : Type 0} → (Parts → V → Type 0) → (T → V) → Bool → (Error → E → Type 0) → Parts →
    Result T E → Type 0
TakesBody Body value allocates from p (Ok x) = Body p (value x)
TakesBody {T} {V} Body value allocates from p (Err e) =
    (IsTrue allocates × from OutOfMemory e) ⊎ ((v : V) → Body p v → ⊥)

-- the check passes exactly the parts that meet it
abbrev pub Checks : (Parts → Type 0) → Parts → Result (Unit {0}) Error → Type 0
Checks Check p (Ok x) = Check p
Checks Check p (Err e) = Check p → ⊥

-- a body gives one value
abbrev pub IsOneBody : {V : Type 0} → (Parts → V → Type 0) → Type 0
IsOneBody {V} Body = (p : Parts) (v w : V) → Body p v → Body p w → v ≡ w

-- the parts of an element of definite length
abbrev pub made : Identifier → List ℕ → Parts
made i c = record { id = i; form = definite (length c); content = c }

-- the same identifier under another class
abbrev pub of_class : ℕ → Identifier → Identifier
of_class class i = record { class = class; constructed = i.constructed; number = i.number }

-- the strict parts of a value meet the check
abbrev pub FormChecks : {V : Type 0} → (V → Identifier → List ℕ → Type 0) → (Parts → Type 0) → Type 0
FormChecks {V} Form Check = (v : V) (i : Identifier) (c : List ℕ) → Form v i c → Check (made i c)

-- and the body, with this value
abbrev pub FormBodies : {V : Type 0} → (V → Identifier → List ℕ → Type 0) → (Parts → V → Type 0) → Type 0
FormBodies {V} Form Body = (v : V) (i : Identifier) (c : List ℕ) → Form v i c → Body (made i c) v

-- and they meet both with this class in place of their own
abbrev pub FormTakes : {V : Type 0} → (V → Identifier → List ℕ → Type 0) → (Parts → Type 0) →
    (Parts → V → Type 0) → ℕ → Type 0
FormTakes {V} Form Check Body class = (v : V) (i : Identifier) (c : List ℕ) → Form v i c →
    Check (made (of_class class i) c) × Body (made (of_class class i) c) v

-- they have this tag number
abbrev pub FormNumber : {V : Type 0} → (V → Identifier → List ℕ → Type 0) → ℕ → Type 0
FormNumber {V} Form number = (v : V) (i : Identifier) (c : List ℕ) → Form v i c → i.number ≡ number

-- they are of this class
abbrev pub FormClass : {V : Type 0} → (V → Identifier → List ℕ → Type 0) → ℕ → Type 0
FormClass {V} Form class = (v : V) (i : Identifier) (c : List ℕ) → Form v i c → i.class ≡ class
