-- What a name stands for.
use Rattle.std.specs.Prelude.{ℕ, zero, suc, List, [], ◌∷◌, ◌≡◌, ◌≢◌}
use Rattle.asn1_schema.specs.declared.names.PartName.{PartName}

-- the first part with this name stands at this place
abbrev pub IsPlaceOf : List PartName → List ℕ → ℕ → Type 0
IsPlaceOf [] name place = ⊥
IsPlaceOf (p ∷ ps) name zero = p.name.now ≡ name
IsPlaceOf (p ∷ ps) name (suc place) = (p.name.now ≢ name) × IsPlaceOf ps name place

-- no part has this name
abbrev pub LacksName : List PartName → List ℕ → Type 0
LacksName [] name = Unit {0}
LacksName (p ∷ ps) name = (p.name.now ≢ name) × LacksName ps name
