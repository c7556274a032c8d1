use mathlib.Core.Logic.{∥∥₁_elim}
use mathlib.Core.Quot.{Quot-set}
use Rattle.x690.specs.Laws.Collections.{permutation_from_multiset, same_multiset, have_same_from_value_set}
use Rattle.x690.specs.Laws.Collections.{same_value_set, permutation_from_value_set}
use Rattle.x690.proofs.collections.collections_are_lists_up_to_order.Goals as goal

pub returns-clause-multisets : goal.returns-clause-multisets
returns-clause-multisets g c =
    λ xs ys. (permutation_from_multiset xs ys, λ m. ∥∥₁_elim m (Quot-set _ _) (same_multiset xs ys))

pub returns-clause-sets : goal.returns-clause-sets
returns-clause-sets g c =
    λ xs ys. (have_same_from_value_set xs ys, λ m. ∥∥₁_elim m (Quot-set _ _) (same_value_set xs ys))

pub returns-clause-once : goal.returns-clause-once
returns-clause-once g c = permutation_from_value_set
