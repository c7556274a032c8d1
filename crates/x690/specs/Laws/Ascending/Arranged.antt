-- The ascending arrangement of strings, as a function of them.
use Rattle.std.specs.Prelude.{◌≡◌, ℕ, ◌+◌, true, false, if◌then◌else◌, List, [], ◌∷◌, length, map}
use Rattle.std.specs.List.{flat_map, concat}
use Rattle.std.specs.List.Sorted.{IsPermutation}
use Rattle.std.specs.Ordering.{is_lt}
use Rattle.std.proofs.Common.{refl, sym, ◌∙◌, ap, arith, length-append}
use Rattle.std.proofs.lemmas.List.Concat.{flat_map-cons}
use Rattle.std.proofs.lemmas.List.Sorted.{IsPermutation-refl, IsPermutation-sym, IsPermutation-trans}
use Rattle.std.proofs.lemmas.List.Sorted.{IsPermutation-swap, IsPermutation-cons}
use Rattle.x690.specs.Octets.{dictionary_order, IsBeforeOrSame}
use Rattle.x690.specs.Ascending.{Ascending, arranged, put_in}
use Rattle.x690.specs.Laws.Octets.Order.{strings_rank}
use Rattle.x690.specs.Laws.Ascending.{ascending_none, ascending_one, ascending_cons, ascending_rest, ascending_first}
use Rattle.x690.specs.Laws.Ascending.{Ascending-unique}

put_in_above : (o p : List ℕ) (ps : List (List ℕ)) → IsBeforeOrSame p o → Ascending (p ∷ ps) →
    Ascending (p ∷ put_in o ps)
unfolding put_in
put_in_above o p [] h up = ascending_cons p o [] h (ascending_one o)
put_in_above o p (q ∷ qs) h up =
    elim (is_lt (dictionary_order q o)) as (λ b. is_lt (dictionary_order q o) ≡ b →
    Ascending (p ∷ (if b then q ∷ put_in o qs else o ∷ q ∷ qs))) [
      | true ↦ λ e. ascending_cons p q (put_in o qs) (ascending_first p q qs up)
          (put_in_above o q qs (strings_rank.one_way q o e) (ascending_rest p (q ∷ qs) up))
      | false ↦ λ e. ascending_cons p o (q ∷ qs) h (ascending_cons o q qs e (ascending_rest p (q ∷ qs) up))
    ] refl

put_in_ascends : (o : List ℕ) (ps : List (List ℕ)) → Ascending ps → Ascending (put_in o ps)
unfolding put_in
put_in_ascends o [] up = ascending_one o
put_in_ascends o (p ∷ ps) up =
    elim (is_lt (dictionary_order p o)) as (λ b. is_lt (dictionary_order p o) ≡ b →
    Ascending (if b then p ∷ put_in o ps else o ∷ p ∷ ps)) [
      | true ↦ λ e. put_in_above o p ps (strings_rank.one_way p o e) up
      | false ↦ λ e. ascending_cons o p ps e up
    ] refl

put_in_moves : (o : List ℕ) (ps : List (List ℕ)) → IsPermutation (o ∷ ps) (put_in o ps)
unfolding put_in
put_in_moves o [] = IsPermutation-refl (o ∷ [])
put_in_moves o (p ∷ ps) =
    elim (is_lt (dictionary_order p o)) as (λ b.
    IsPermutation (o ∷ p ∷ ps) (if b then p ∷ put_in o ps else o ∷ p ∷ ps)) [
      | true ↦ IsPermutation-trans (o ∷ p ∷ ps) (p ∷ o ∷ ps) (p ∷ put_in o ps)
          (IsPermutation-swap (o ∷ p ∷ ps) (p ∷ o ∷ ps) 0 1 (omega arith) (omega arith) refl)
          (IsPermutation-cons p (o ∷ ps) (put_in o ps) (put_in_moves o ps))
      | false ↦ IsPermutation-refl (o ∷ p ∷ ps)
    ]

-- The arrangement ascends.
pub arranged_ascends : (os : List (List ℕ)) → Ascending (arranged os)
unfolding arranged
arranged_ascends [] = ascending_none
arranged_ascends (o ∷ os) = put_in_ascends o (arranged os) (arranged_ascends os)

-- It has the same strings.
pub arranged_moves : (os : List (List ℕ)) → IsPermutation os (arranged os)
unfolding arranged
arranged_moves [] = IsPermutation-refl []
arranged_moves (o ∷ os) = IsPermutation-trans (o ∷ os) (o ∷ arranged os) (put_in o (arranged os))
    (IsPermutation-cons o os (arranged os) (arranged_moves os)) (put_in_moves o (arranged os))

-- no other arrangement ascends
pub only_arranged : (os ps : List (List ℕ)) → IsPermutation os ps → Ascending ps → ps ≡ arranged os
only_arranged os ps p up =
    Ascending-unique ps (arranged os)
    (IsPermutation-trans ps os (arranged os) (IsPermutation-sym os ps p) (arranged_moves os)) up
    (arranged_ascends os)

-- so strings in another order have the same one
pub arranged_same : (os ps : List (List ℕ)) → IsPermutation os ps → arranged os ≡ arranged ps
arranged_same os ps p = sym (only_arranged os (arranged ps)
    (IsPermutation-trans os ps (arranged ps) p (arranged_moves ps)) (arranged_ascends ps))

put_in_length : (o : List ℕ) (ps : List (List ℕ)) → length (concat (put_in o ps)) ≡ length o + length (concat ps)
unfolding put_in
put_in_length o [] = length-append o []
put_in_length o (p ∷ ps) =
    elim (is_lt (dictionary_order p o)) as (λ b.
    length (concat (if b then p ∷ put_in o ps else o ∷ p ∷ ps)) ≡ length o + length (concat (p ∷ ps))) [
      | true ↦ let a = length-append p (concat (put_in o ps)) in
          let b = length-append p (concat ps) in
          let c = put_in_length o ps in omega (arith, a, b, c)
      | false ↦ length-append o (concat (p ∷ ps))
    ]

-- The strings of values have as many octets in this arrangement as in theirs.
pub arranged_length : {X : Type 0} (f : X → List ℕ) (xs : List X) →
    length (concat (arranged (map f xs))) ≡ length (flat_map f xs)
unfolding arranged
arranged_length f [] = refl
arranged_length f (x ∷ xs) =
    let a = put_in_length (f x) (arranged (map f xs)) in
    let b = arranged_length f xs in
    let c = ap length (flat_map-cons f x xs) ∙ length-append (f x) (flat_map f xs) in omega (arith, a, b, c)
