use Rattle.std.proofs.Common.{◌≡◌, map, Ok}
use Rattle.asn1_rs_uses.proofs.items.items_in.Given as goal

abbrev pub invariant-loop-item : goal.invariant-loop-item
invariant-loop-item g l = l.yielded ≡ map Ok l.items.items
