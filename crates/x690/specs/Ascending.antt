-- Strings in ascending order (X.690 11.6).
use Rattle.std.specs.Prelude.{ℕ, List, [], ◌∷◌, if◌then◌else◌}
use Rattle.std.specs.Ordering.{is_lt}
use Rattle.std.specs.List.Sorted.{IsSorted}
use Rattle.x690.specs.Octets.{dictionary_order}

-- no string is before the one in front of it, in dictionary order
abbrev pub Ascending : List (List ℕ) → Type 0
Ascending strings = IsSorted dictionary_order strings

-- a string at its place among ascending ones
unfoldable pub put_in : List ℕ → List (List ℕ) → List (List ℕ)
put_in o [] = o ∷ []
put_in o (p ∷ ps) = if is_lt (dictionary_order p o) then p ∷ put_in o ps else o ∷ p ∷ ps

-- the strings in ascending order
unfoldable pub arranged : List (List ℕ) → List (List ℕ)
arranged [] = []
arranged (o ∷ os) = put_in o (arranged os)
