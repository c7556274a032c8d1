-- What holds of each element.
use Rattle.std.specs.Prelude.{List, [], ◌∷◌}
use Rattle.x690.specs.Elements.{Parts}

-- of each of the elements
abbrev pub Each : (Parts → Type 0) → List Parts → Type 0
Each P [] = Unit {0}
Each P (p ∷ ps) = P p × Each P ps
