-- Whether lists and sets in hand are in DER form: as each of their items is.
use Rattle.std.proofs.Common.{◌≡◌, Bool, true, refl, List, [], ◌∷◌, map}
use Rattle.std.specs.Prelude.{◌↔◌, IsTrue}
use Rattle.std.proofs.lemmas.List.Elements.{All-nil, All-cons, All-head, All-tail, All-map}
use Rattle.std.proofs.lemmas.List.Sorted.{All-permutation}
use Rattle.std.specs.List.{All}
use Rattle.std.specs.List.Sorted.{IsPermutation}
use mathlib.Core.Bool.{Bool-set}
use mathlib.Core.Logic.{∥∥₁_elim}
use Rattle.x690.specs.Collections.{AllDiffer, AnyList, multiset}
use Rattle.x690.specs.Laws.Collections.{permutation_from_multiset}
use Rattle.asn1_rs.specs.Laws.AssertValid.{members_in_der}
use Rattle.asn1_rs.specs.Laws.Set.{members_are}
use Rattle.asn1_rs.specs.Set.{SetInDer, members, pairs_pass, set_of}

module _ {S V : Type 0} (value : S → V) (IsDer : V → Type 0) where
  -- what holds of the values of items holds of the items
  All_unmapped : (xs : List S) → All IsDer (map value xs) → All (λ x. IsDer (value x)) xs
  All_unmapped [] a = All-nil (λ x. IsDer (value x))
  All_unmapped (x ∷ xs) a = All-cons (λ x. IsDer (value x)) x xs (All-head IsDer (value x) (map value xs) a)
      (All_unmapped xs (All-tail IsDer (value x) (map value xs) a))

  module _ (answer : Bool) (xs : List S) (each : IsTrue answer ↔ All (λ x. IsDer (value x)) xs) where
    -- The answer for each item is that for the list.
    pub list_told : IsTrue answer ↔ All IsDer (map value xs)
    list_told = (λ t. All-map IsDer value xs (each.0 t), λ a. each.1 (All_unmapped xs a))

    -- It is that for a row of values of which these are another order.
    moved_told : (vs : List V) → IsPermutation vs (map value xs) → All IsDer vs → IsTrue answer
    moved_told vs p a = list_told.1 (All-permutation IsDer vs (map value xs) p a)

    -- It is that for the set in which an item may stand more than once.
    pub multiset_told : IsTrue answer ↔ SetInDer multiset AnyList IsDer (multiset (map value xs))
    multiset_told = (
      λ t. (map value xs, tt, refl, list_told.0 t),
      λ d. ∥∥₁_elim (permutation_from_multiset d.0 (map value xs) d.2) (Bool-set answer true) (λ p. moved_told d.0 p d.3),
    )

    -- It is that for the set in which each item stands once.
    pub members_told : (test : S → S → Bool) → ((x y : S) → test x y ≡ true → value x ≡ value y → ⊥) →
        pairs_pass test xs ≡ true → IsTrue answer ↔ SetInDer set_of AllDiffer IsDer (members test value xs)
    members_told test apart pass = (
      λ t. members_in_der test value apart IsDer xs pass (list_told.0 t),
      λ d. ∥∥₁_elim (members_are test value apart xs d.0 d.1 d.2) (Bool-set answer true) (λ p. moved_told d.0 p d.3),
    )
