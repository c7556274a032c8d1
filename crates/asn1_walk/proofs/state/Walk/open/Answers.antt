use Rattle.std.proofs.Common.{inr, refl}
use Rattle.asn1_walk.proofs.state.Walk.open.Goals as goal

pub returns-clause-finds : goal.returns-clause-finds
returns-clause-finds c = inr (c.args.frame, c.requires, refl, refl, c.in_ok-push.ensures.items)
