use Rattle.std.proofs.Common.{length, arith}
use Rattle.x690.specs.Laws.StrictIdentifiers.{power_le}
use Rattle.x690.specs.Laws.Arcs.Beginnings.{arcs_fit}
use Rattle.x690.proofs.arcs.few_octets_have_small_arcs.Goals as goal

pub returns-clause-bound : goal.returns-clause-bound
returns-clause-bound c = arcs_fit

pub returns-clause-nine : goal.returns-clause-nine
returns-clause-nine c relative content few k d within =
    omega (arith, arcs_fit relative content k d within, power_le 9 (length content) few)
