use Rattle.std.proofs.Common.{◌≡◌, List, map, Ok, length}
use Rattle.std.specs.Iterator.{Yields}
use Rattle.asn1_rs.specs.declared.asn1_types.any.Any.{Any}
use Rattle.asn1_headers.specs.declared.error.Error.{Error}
use Rattle.asn1_headers.specs.Walk.{TakesItem}
use Rattle.asn1_rs.specs.Lists.{CheckedGives}
use Rattle.asn1_rs.proofs.asn1_types.lists.check_items.Given as goal

abbrev pub invariant-loop-left : goal.invariant-loop-left
invariant-loop-left g l =
    (items : List Any) × Yields (TakesItem (CheckedGives g.T.CheckDerConstraints.check_gives) (λ (x y : Error). y ≡ x))
    l.content (map Ok items) l.left

abbrev pub decreases-loop-left : goal.decreases-loop-left
decreases-loop-left g l = length l.left
