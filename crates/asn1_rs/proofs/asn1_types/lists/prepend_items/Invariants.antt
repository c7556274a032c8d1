use Rattle.std.proofs.Common.{◌≤◌, Ok, length, drop}
use Rattle.std.specs.List.{All, flat_map}
use Rattle.asn1_headers.specs.Prepended.{Prepended}
use Rattle.asn1_rs.specs.ToDer.{HasNone, whole_octets, whole_refuses}
use Rattle.asn1_rs.proofs.asn1_types.lists.prepend_items.Given as goal

abbrev pub invariant-loop-at : goal.invariant-loop-at
invariant-loop-at g l = record {
  within : l.at ≤ length l.items;
  done : All g.T.ToDer.writing.tells l.items →
      Prepended (flat_map (whole_octets g.T.ToDer.writing) (drop l.at l.items)) l.fn.buf l.buf (Ok l.total);
  none : All g.T.ToDer.writing.tells l.items →
      All (λ x. HasNone (whole_refuses g.T.ToDer.writing x)) (drop l.at l.items);
  counted : All g.T.ToDer.writing.tells l.items →
      All (λ x. HasNone (g.T.ToDer.writing.count_refuses x)) (drop l.at l.items);
}

abbrev pub decreases-loop-at : goal.decreases-loop-at
decreases-loop-at g l = l.at
