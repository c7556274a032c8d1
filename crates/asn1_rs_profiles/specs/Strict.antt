-- Octets that are the one strict encoding of a value, and the first octet that differs from it.
use Rattle.std.specs.Prelude.{◌≡◌, ◌≢◌, ◌⊎◌, ◌<◌, ◌^◌, ℕ, List, length, take, Result, Ok, Err}
use Rattle.std.specs.List.{slice_get}
use Rattle.x690.specs.Identifiers.{Identifier}
use Rattle.asn1_headers.specs.declared.error.Error.TheVariants.{OutOfMemory}
use Rattle.asn1_rs.specs.Grammar.Form.{IsStrict}
use Rattle.asn1_rs.specs.Grammar.Item.{ItemGrammar}
use Rattle.asn1_rs.specs.ToDer.{Writing, whole_octets}
use Rattle.asn1_rs_profiles.specs.declared.strict.NotStrict.{NotStrict}
use Rattle.asn1_rs_profiles.specs.declared.strict.NotStrict.TheVariants.{Refused, Differs}

-- Both lists are the same before this place and not at it, where one of them may end.
pub record DifferAt (at : ℕ) (xs ys : List ℕ) : Type 0 where
  pub same : take at xs ≡ take at ys
  pub apart : slice_get xs at ≢ slice_get ys at

-- the octets are the strict encoding of no value
abbrev pub IsNoStrict : {V : Type 0} → (V → Identifier → List ℕ → Type 0) → List ℕ → Type 0
IsNoStrict {V} Form octets = (v : V) → ∥ IsStrict Form v octets ∥₁ → ⊥

-- The octets are what is written of their value, by the words of DER. Where they are not, they are no strict encoding.
-- The answer is then the first octet that differs from what is written of their value, if they have one.
abbrev pub ReadsAsWritten : {T : Type 0} → ItemGrammar T → Writing T → List ℕ → Result T NotStrict → Type 0
ReadsAsWritten G w octets (Ok x) = G.Der octets (G.value x) × (octets ≡ whole_octets w x)
ReadsAsWritten G w octets (Err (Refused e)) = (e ≡ OutOfMemory) ⊎ IsNoStrict G.Form octets
ReadsAsWritten {T} G w octets (Err (Differs at)) =
    IsNoStrict G.Form octets × ((x : T) × G.Der octets (G.value x) × DifferAt at octets (whole_octets w x))

-- Ok exactly where the octets are the strict encoding of a value, which is the answer. An Err comes only where they are
-- none, or when out of memory. It tells the first octet that differs from the strict encoding of their value, where
-- they are a word by DER.
abbrev pub ReadsStrict : {T : Type 0} → ItemGrammar T → List ℕ → Result T NotStrict → Type 0
ReadsStrict G octets (Ok x) = ∥ IsStrict G.Form (G.value x) octets ∥₁
ReadsStrict G octets (Err (Refused e)) = (e ≡ OutOfMemory) ⊎ IsNoStrict G.Form octets
ReadsStrict G octets (Err (Differs at)) = IsNoStrict G.Form octets ×
    ((v : G.Value) × (strict : List ℕ) × G.Der octets v × ∥ IsStrict G.Form v strict ∥₁ × DifferAt at octets strict)

-- what comparing the octets with what is written of a value may answer
abbrev pub Compares : {T : Type 0} → ItemGrammar T → Writing T → T → List ℕ → Result (Unit {0}) NotStrict → Type 0
Compares G w x octets (Ok y) = octets ≡ whole_octets w x
Compares G w x octets (Err (Refused e)) = (e ≡ OutOfMemory) ⊎ (IsStrict G.Form (G.value x) octets → ⊥)
Compares G w x octets (Err (Differs at)) =
    (IsStrict G.Form (G.value x) octets → ⊥) × DifferAt at octets (whole_octets w x) ×
    (length (whole_octets w x) < 2 ^ 64)
