-- Subidentifiers are shortest: told octet by octet.
use Rattle.std.proofs.Common.{◌≡◌, ◌≢◌, refl, ℕ, suc, ◌<◌, Bool, true, false, List, [], ◌∷◌, arith}
use Rattle.std.specs.Prelude.{nat_lt, if◌then◌else◌, ◌↔◌}
use Rattle.std.specs.List.{AllByRecursion}
use Rattle.std.proofs.lemmas.List.Elements.{recursion_from_All, All-from_recursion}
use Rattle.x690.specs.Octets.{IsOctets}
use Rattle.x690.specs.Identifiers.{AreTagDigits}
use Rattle.x690.specs.Arcs.{in_front, pieces_of, IsShortestPiece, AreShortest, AreShortestFrom}

-- the first piece may lack its beginning
abbrev Fits : Bool → List (List ℕ) → Type 0
Fits true ps = AllByRecursion IsShortestPiece ps
Fits false [] = ⊥
Fits false (p ∷ ps) = AreTagDigits p × AllByRecursion IsShortestPiece ps

step : (start b : Bool) (o : ℕ) (ps : List (List ℕ)) → nat_lt o 128 ≡ b → o < 256 → (start ≡ true → o ≢ 128) →
    Fits b ps → Fits start (if b then (o ∷ []) ∷ ps else in_front o ps)
step true true o ps e l n f = ((grind (arith, e), n refl), f)
step false true o ps e l n f = (grind (arith, e), f)
step true false o [] e l n f = absurd f
step false false o [] e l n f = absurd f
step true false o ([] ∷ ps) e l n f = absurd f.0
step false false o ([] ∷ ps) e l n f = absurd f.0
step true false o ((d ∷ ds) ∷ ps) e l n f = (((grind (arith, e), l, f.0), n refl), f.1)
step false false o ((d ∷ ds) ∷ ps) e l n f = ((grind (arith, e), l, f.0), f.1)

back : (start b : Bool) (o : ℕ) (ps : List (List ℕ)) → nat_lt o 128 ≡ b →
    Fits start (if b then (o ∷ []) ∷ ps else in_front o ps) → (start ≡ true → o ≢ 128) × Fits b ps
back true true o ps e f = (λ x. f.0.1, f.1)
back false true o ps e f = (λ x. absurd (cc), f.1)
back true false o [] e f = absurd (let l = f.0.0 in grind (arith, e, l))
back false false o [] e f = absurd (let l = f.0 in grind (arith, e, l))
back true false o ([] ∷ ps) e f = absurd (let l = f.0.0 in grind (arith, e, l))
back false false o ([] ∷ ps) e f = absurd (let l = f.0 in grind (arith, e, l))
back true false o ((d ∷ ds) ∷ ps) e f = (λ x. f.0.1, (f.0.0.2, f.1))
back false false o ((d ∷ ds) ∷ ps) e f = (λ x. absurd (cc), (f.0.2, f.1))

to_pieces : (start : Bool) (xs : List ℕ) → IsOctets xs → AreShortestFrom start xs → Fits start (pieces_of xs)
to_pieces true [] b a = tt
to_pieces false [] b a = absurd (cc)
to_pieces start (o ∷ os) b a = step start (nat_lt o 128) o (pieces_of os) refl (b 0) a.0
    (to_pieces (nat_lt o 128) os (λ k. b (suc k)) a.1)

from_pieces : (start : Bool) (xs : List ℕ) → Fits start (pieces_of xs) → AreShortestFrom start xs
from_pieces true [] f = refl
from_pieces false [] f = absurd f
from_pieces start (o ∷ os) f =
    let b = back start (nat_lt o 128) o (pieces_of os) refl f in (b.0, from_pieces (nat_lt o 128) os b.1)

pub shortest_told : (xs : List ℕ) → IsOctets xs → AreShortestFrom true xs ↔ AreShortest xs
shortest_told xs b = (
  λ a. All-from_recursion IsShortestPiece (pieces_of xs) (to_pieces true xs b a),
  λ a. from_pieces true xs (recursion_from_All IsShortestPiece (pieces_of xs) a),
)
