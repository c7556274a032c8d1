use Rattle.std.proofs.Common.{inl, refl, arith}
use Rattle.asn1_walk.proofs.state.Walk.pass.Goals as goal

pub returns : goal.returns
returns c = inl (c.requires, omega arith, refl)
