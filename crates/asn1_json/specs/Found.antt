-- What is found of one thing alone.
use Rattle.std.specs.Prelude.{◌≡◌, Option, MatchOption}

-- The one thing of which it is true is found, or nothing where it is true of none.
abbrev pub FindsOnly : {A V : Type 0} → (A → V) → (V → Type 0) → Option A → Type 0
FindsOnly {A} {V} seen_as P found =
    MatchOption found ((x : V) → P x → ⊥) (λ a. P (seen_as a) × ((x : V) → P x → x ≡ seen_as a))
