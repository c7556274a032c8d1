use Rattle.std.proofs.Common.{◌^◌, ◌<◌, ◌≤◌, length}
use Rattle.std.specs.List.{All}
use Rattle.x690.specs.Arcs.{subidentifiers, arcs_of}
use Rattle.x690.specs.Laws.Arcs.Fronts.{AreBelow}
use Rattle.x690.proofs.arcs.arcs_fit_by_piece.Given as goal

abbrev pub invariant-loop-rest : goal.invariant-loop-rest
invariant-loop-rest l = record {
  bound : l.bound ≤ 2 ^ 65;
  great : 2 ^ 64 ≤ l.bound;
  fits : AreBelow l.bound (subidentifiers l.rest) → All (λ arc. arc < 2 ^ 64) (arcs_of l.relative l.octets);
  fit : All (λ arc. arc < 2 ^ 64) (arcs_of l.relative l.octets) → AreBelow l.bound (subidentifiers l.rest);
}

abbrev pub decreases-loop-rest : goal.decreases-loop-rest
decreases-loop-rest l = length l.rest
