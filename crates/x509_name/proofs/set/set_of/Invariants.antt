use Rattle.std.proofs.Common.{◌≡◌, map, take}
use Rattle.x509_name.proofs.set.set_of.Given as goal

abbrev pub invariant-loop-item : goal.invariant-loop-item
invariant-loop-item g l = map (λ r. r.now) l.members.items ≡ take l.item-index l.items
