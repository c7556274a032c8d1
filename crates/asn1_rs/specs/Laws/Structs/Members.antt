-- Equality of the fields of a struct, and of rows of them, is that of their values.
use Rattle.std.specs.Prelude.{◌≡◌, ◌↔◌, ◌&&◌, Bool, true, List, [], ◌∷◌, Option, Some, None, IsTrue}
use Rattle.std.specs.Option.{option_map, option_eq}
use Rattle.std.proofs.Common.{◌∙◌, ap, refl}
use Rattle.std.proofs.lemmas.Bool.{and_parts, and_from, false≢true}

-- Optional items are equal where both are left out, or both are there with one value.
pub option_same : {S V : Type 0} (value : S → V) (eq : S → S → Bool) →
    ((x y : S) → IsTrue (eq x y) ↔ (value x ≡ value y)) → (x y : Option S) →
    IsTrue (option_eq eq x y) ↔ (option_map value x ≡ option_map value y)
option_same value eq same (Some x) (Some y) = (λ h. ap Some ((same x y).0 h), λ e. (same x y).1 cc)
option_same value eq same (Some x) None = (λ h. absurd (false≢true h), λ e. cc)
option_same value eq same None (Some y) = (λ h. absurd (false≢true h), λ e. cc)
option_same value eq same None None = (λ h. refl, λ e. refl)

-- All of these hold. Of several it is as `==` of a struct that derives it has it.
abbrev pub all_of : List Bool → Bool
all_of [] = true
all_of (b ∷ []) = b
all_of (b ∷ (c ∷ cs)) = b && all_of (c ∷ cs)

-- where all hold, the first does, and all others do
all_parts : (b : Bool) (cs : List Bool) → IsTrue (all_of (b ∷ cs)) → IsTrue b × IsTrue (all_of cs)
all_parts b [] h = (h, refl)
all_parts b (c ∷ cs) h = and_parts b (all_of (c ∷ cs)) h

-- where the first and all others hold, all do
all_from : (b : Bool) (cs : List Bool) → IsTrue b → IsTrue (all_of cs) → IsTrue (all_of (b ∷ cs))
all_from b [] h k = h
all_from b (c ∷ cs) h k = and_from b (all_of (c ∷ cs)) h k

-- pairs of the same are the same
pair_same : {A B : Type 0} {a c : A} {b d : B} → a ≡ c → b ≡ d → ◌≡◌ {A = A × B} (a, b) (c, d)
pair_same {A} {B} {a} {c} {b} {d} e f = ap (λ (v : A). (v, b)) e ∙ ap (λ (w : B). (c, w)) f

-- A field and the row behind it are equal where the values of both are the same.
module _ {S R V W : Type 0} (value : S → V) (eq : S → S → Bool)
    (same : (x y : S) → IsTrue (eq x y) ↔ (value x ≡ value y)) (values : R → W) (eqs : R → R → List Bool)
    (others : (x y : R) → IsTrue (all_of (eqs x y)) ↔ (values x ≡ values y)) where
  pub row_same : (x y : S × R) → IsTrue (all_of (eq x.0 y.0 ∷ eqs x.1 y.1)) ↔
      ◌≡◌ {A = V × W} (value x.0, values x.1) (value y.0, values y.1)
  row_same x y = (to, from)
    where
      to : IsTrue (all_of (eq x.0 y.0 ∷ eqs x.1 y.1)) → ◌≡◌ {A = V × W} (value x.0, values x.1) (value y.0, values y.1)
      to h = let both = all_parts (eq x.0 y.0) (eqs x.1 y.1) h in
          pair_same ((same x.0 y.0).0 both.0) ((others x.1 y.1).0 both.1)

      from : ◌≡◌ {A = V × W} (value x.0, values x.1) (value y.0, values y.1) →
          IsTrue (all_of (eq x.0 y.0 ∷ eqs x.1 y.1))
      from e = all_from (eq x.0 y.0) (eqs x.1 y.1) ((same x.0 y.0).1 (ap (λ (v : V × W). v.0) e))
          ((others x.1 y.1).1 (ap (λ (v : V × W). v.1) e))
