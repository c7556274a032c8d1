use Rattle.std.proofs.Common.{◌≡◌, true, map}
use Rattle.std.specs.List.{All}
use Rattle.asn1_rs.specs.Oid.Making.{SaysArc, arc_said}
use Rattle.asn1_rs.proofs.asn1_types.oid.making.arcs_of_text.Given as goal

abbrev pub invariant-loop-part : goal.invariant-loop-part
invariant-loop-part l =
    (goal.iterator-loop-part).can_next l.part-iterator × (goal.iterator-loop-part).is_finite l.part-iterator
    × All SaysArc (map (λ part. part.now) l.yielded)
    × (l.kept ≡ true → l.arcs.items ≡ map arc_said (map (λ part. part.now) l.yielded))
