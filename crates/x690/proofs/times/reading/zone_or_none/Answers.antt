use Rattle.std.proofs.Common.{inl, inr, length, ap, arith}
use Rattle.std.proofs.lemmas.Bool.Decides.{nat_tests}
use Rattle.x690.proofs.times.reading.zone_or_none.Goals as goal

pub returns-clause-none : goal.returns-clause-none
returns-clause-none c is z said = elim said [
  | inl none ↦ let long = ap length none.0 in grind (arith, nat_tests)
  | inr told ↦ c.zone.ensures.none is z told
]
