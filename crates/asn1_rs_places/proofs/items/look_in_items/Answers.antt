use Rattle.std.proofs.Common.{rules, add-one}
use Rattle.asn1_rs_places.proofs.items.look_in_items.Goals as goal

pub loop-place-preserved : goal.loop-place-preserved
loop-place-preserved g c = rw (add-one c.loop-place.place) (search rules)
