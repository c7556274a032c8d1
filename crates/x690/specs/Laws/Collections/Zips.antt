-- Lists of values beside lists of their strings.
use Rattle.std.specs.Prelude.{◌≡◌, ℕ, ◌<◌, List, [], ◌∷◌, length, swap}
use Rattle.std.specs.List.{AllZip}
use Rattle.std.specs.List.Sorted.{IsPermutation}
use Rattle.std.proofs.Common.{refl, sym, subst, arith, get_or, set, zero, suc}
use Rattle.std.proofs.lemmas.List.Sorted.{IsPermutation-keeps, IsPermutation-refl, IsPermutation-trans}
use Rattle.std.proofs.lemmas.List.Sorted.{IsPermutation-swap}
use Rattle.std.proofs.lemmas.Slice.Zip.{AllZip-long}

module _ {A B : Type 0} (R : A → B → Type 0) where
  -- What relates two lists one by one relates them the other way round.
  pub zip_turn : (xs : List A) (ys : List B) → AllZip R xs ys → AllZip (λ y x. R x y) ys xs
  zip_turn [] [] h = tt
  zip_turn [] (y ∷ ys) h = absurd h
  zip_turn (x ∷ xs) [] h = absurd h
  zip_turn (x ∷ xs) (y ∷ ys) h = (h.0, zip_turn xs ys h.1)

  -- It relates what stands at one place.
  pub zip_get : (xs : List A) (ys : List B) (i : ℕ) (d : A) (e : B) → AllZip R xs ys → i < length xs →
      R (get_or xs i d) (get_or ys i e)
  zip_get [] [] i d e h l = absurd (omega (arith, l))
  zip_get [] (y ∷ ys) i d e h l = absurd h
  zip_get (x ∷ xs) [] i d e h l = absurd h
  zip_get (x ∷ xs) (y ∷ ys) zero d e h l = h.0
  zip_get (x ∷ xs) (y ∷ ys) (suc i) d e h l = zip_get xs ys i d e h.1 (omega (arith, l))

  -- It stays where related items are put at one place of both.
  pub zip_set : (xs : List A) (ys : List B) (i : ℕ) (x : A) (y : B) → AllZip R xs ys → R x y →
      AllZip R (set xs i x) (set ys i y)
  zip_set [] [] i x y h r = tt
  zip_set [] (b ∷ ys) i x y h r = absurd h
  zip_set (a ∷ xs) [] i x y h r = absurd h
  zip_set (a ∷ xs) (b ∷ ys) zero x y h r = (r, h.1)
  zip_set (a ∷ xs) (b ∷ ys) (suc i) x y h r = (h.0, zip_set xs ys i x y h.1 r)

  -- It stays where the items at two places of both change these.
  pub zip_swap : (xs : List A) (ys : List B) (i j : ℕ) → i < length xs → j < length xs → AllZip R xs ys →
      AllZip R (swap xs i j) (swap ys i j)
  zip_swap [] [] i j k l h = tt
  zip_swap [] (y ∷ ys) i j k l h = absurd h
  zip_swap (x ∷ xs) [] i j k l h = absurd h
  zip_swap (x ∷ xs) (y ∷ ys) i j k l h =
      zip_set (set (x ∷ xs) i (get_or (x ∷ xs) j x)) (set (y ∷ ys) i (get_or (y ∷ ys) j y)) j (get_or (x ∷ xs) i x)
      (get_or (y ∷ ys) i y)
      (zip_set (x ∷ xs) (y ∷ ys) i (get_or (x ∷ xs) j x) (get_or (y ∷ ys) j y) h (zip_get (x ∷ xs) (y ∷ ys) j x y h l))
      (zip_get (x ∷ xs) (y ∷ ys) i x y h k)

  -- in another order of the first, the second stands in some order
  pub zip_permutation : (xs ws : List A) (ys : List B) → IsPermutation xs ws → AllZip R xs ys →
      (zs : List B) × AllZip R ws zs × IsPermutation ys zs
  zip_permutation xs ws ys p h =
      IsPermutation-keeps xs (λ l. (zs : List B) × AllZip R l zs × IsPermutation ys zs)
      (ys, h, IsPermutation-refl ys)
      (λ l i j k m t. (
        swap t.0 i j,
        zip_swap l t.0 i j k m t.1,
        IsPermutation-trans ys t.0 (swap t.0 i j) t.2
            (IsPermutation-swap t.0 (swap t.0 i j) i j (subst (λ n. i < n) (sym (AllZip-long R l t.0 t.1)) k)
            (subst (λ n. j < n) (sym (AllZip-long R l t.0 t.1)) m) refl),
      ))
      ws p

  -- A list has one list beside it where each item has one item.
  pub zip_right : ((x : A) (y z : B) → R x y → R x z → y ≡ z) → (xs : List A) (ys zs : List B) → AllZip R xs ys →
      AllZip R xs zs → ys ≡ zs
  zip_right one [] [] [] h k = refl
  zip_right one [] (y ∷ ys) zs h k = absurd h
  zip_right one [] [] (z ∷ zs) h k = absurd k
  zip_right one (x ∷ xs) [] zs h k = absurd h
  zip_right one (x ∷ xs) (y ∷ ys) [] h k = absurd k
  zip_right one (x ∷ xs) (y ∷ ys) (z ∷ zs) h k = λ i. one x y z h.0 k.0 i ∷ zip_right one xs ys zs h.1 k.1 i
