use Rattle.asn1_rs_places.specs.Places.{TakesItems}
use Rattle.asn1_rs_places.proofs.items.look_in_items.Given as goal

abbrev pub invariant-loop-place : goal.invariant-loop-place
invariant-loop-place g l = TakesItems g.T.ReadsValue.value_gives l.place l.octets l.left
