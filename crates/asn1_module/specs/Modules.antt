-- What the name of a type stands for.
use Rattle.std.specs.Prelude.{ℕ, List, All, ◌≡◌, ◌≢◌, ◌<◌, slice_get, Some}
use Rattle.asn1_module.specs.declared.modules.ModuleType.{ModuleType}

-- a type of this name has this place in the table
abbrev pub IsTypeNamed : List ModuleType → List ℕ → ℕ → Type 0
IsTypeNamed types name of = (k : ℕ) × (t : ModuleType) × (slice_get types k ≡ Some t) × (t.name.now ≡ name) × (t.of ≡ of)

-- a type has a place among so many types of a table
abbrev pub HasPlace : ℕ → ModuleType → Type 0
HasPlace count t = t.of < count

-- each type has one
abbrev pub HavePlaces : List ModuleType → ℕ → Type 0
HavePlaces types count = All (HasPlace count) types

-- no type has this name
abbrev pub LacksType : List ModuleType → List ℕ → Type 0
LacksType types name = All (λ t. t.name.now ≢ name) types
