-- Strings that are found again in what they are joined to.
use Rattle.std.specs.Prelude.{◌≡◌, ℕ, ◌+◌, ◌<◌, List, [], ◌∷◌, length, map, Some, slice_get, Result, Ok, Err, IfOk}
use Rattle.std.proofs.Common.{refl, ap, ◌∙◌, subst, arith, get_or, take, drop, zero, suc, ◌++◌, length-append}
use Rattle.std.specs.Prelude.{min}
use Rattle.std.specs.List.{concat}
use Rattle.std.proofs.Math.Nat.{min-eq_left}
use Rattle.std.proofs.lemmas.List.{take_at, drop_at, drop_more, get_or-map, length-map}

-- the item that was got at an index
pub got_at : {X : Type 0} (xs : List X) (i : ℕ) (x : X) → i < length xs → slice_get xs i ≡ Some x → x ≡ get_or xs i x
got_at [] i x h e = absurd (omega (arith, h))
got_at (y ∷ ys) zero x h e = cc
got_at (y ∷ ys) (suc i) x h e = got_at ys i x (omega (arith, h)) e

pub if_ok : {W E : Type 0} {P Q : W → Type 0} (r : Result W E) → ((w : W) → P w → Q w) → IfOk r P → IfOk r Q
if_ok (Ok w) f h = f w h
if_ok (Err e) f h = h

pub length_at : (strings : List (List ℕ)) (lengths : List ℕ) (i : ℕ) → lengths ≡ map length strings →
    i < length lengths → (i < length strings) × (get_or lengths i 0 ≡ length (get_or strings i []))
length_at strings lengths i e lt =
    let k : i < length strings = subst (λ n. i < n) (ap length e ∙ length-map strings length) lt in
    (k, ap (λ ls. get_or ls i 0) e ∙ get_or-map length strings i [] 0 k)

-- a piece at the front of strings that are joined, and what is left behind it
module _ (strings : List (List ℕ)) (i : ℕ) (lt : i < length strings) (rest : List ℕ)
    (left : rest ≡ concat (drop i strings)) (truncated : ℕ)
    (is : truncated ≡ min (length (get_or strings i [])) (length rest)) where
  whole : rest ≡ get_or strings i [] ++ concat (drop (i + 1) strings)
  whole = left ∙ ap concat (drop_more strings i [] lt)

  long : truncated ≡ length (get_or strings i [])
  long =
      is ∙ min-eq_left (let l = ap length whole ∙ length-append (get_or strings i []) (concat (drop (i + 1) strings)) in
      omega (arith, l))

  pub piece_front : take truncated rest ≡ get_or strings i []
  piece_front = rw (whole, long) (take_at (get_or strings i []) (concat (drop (i + 1) strings)) _ refl)

  pub piece_back : drop truncated rest ≡ concat (drop (i + 1) strings)
  piece_back = rw (whole, long) (drop_at (get_or strings i []) (concat (drop (i + 1) strings)) _ refl)
