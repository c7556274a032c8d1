use Rattle.std.proofs.Common.{◌≤◌, ◌≡◌, ◌++◌, length, drop, map}
use Rattle.std.specs.List.{All, flat_map}
use Rattle.asn1_rs.specs.ToDer.{HasNone, whole_octets, whole_refuses}
use Rattle.asn1_rs.proofs.asn1_types.lists.prepend_and_count.Given as goal

abbrev pub invariant-loop-left : goal.invariant-loop-left
invariant-loop-left g l = record {
  within : l.left ≤ length l.items;
  places : length l.lengths ≡ length l.items;
  done : All g.T.ToDer.writing.tells l.items →
      l.buf ≡ flat_map (whole_octets g.T.ToDer.writing) (drop l.left l.items) ++ l.fn.buf;
  counted : All g.T.ToDer.writing.tells l.items →
      drop l.left l.lengths ≡ map length (map (whole_octets g.T.ToDer.writing) (drop l.left l.items));
  none : All g.T.ToDer.writing.tells l.items →
      All (λ x. HasNone (whole_refuses g.T.ToDer.writing x)) (drop l.left l.items);
  uncounted : All g.T.ToDer.writing.tells l.items →
      All (λ x. HasNone (g.T.ToDer.writing.count_refuses x)) (drop l.left l.items);
}

abbrev pub decreases-loop-left : goal.decreases-loop-left
decreases-loop-left g l = l.left
