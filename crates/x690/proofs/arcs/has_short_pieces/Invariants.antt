use Rattle.std.proofs.Common.{◌≤◌, drop, IsTrue}
use Rattle.x690.specs.Laws.Arcs.Runs.{HasShortRuns}
use Rattle.x690.proofs.arcs.has_short_pieces.Given as goal

abbrev pub invariant-loop-octet : goal.invariant-loop-octet
invariant-loop-octet l = record {
  run : l.run ≤ l.octet-index;
  short : IsTrue l.short → HasShortRuns l.run (drop l.octet-index l.octets) → HasShortRuns 0 l.octets;
}
