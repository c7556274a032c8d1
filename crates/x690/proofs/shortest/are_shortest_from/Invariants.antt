use Rattle.std.proofs.Common.{◌↔◌, true, drop}
use Rattle.x690.specs.Arcs.{AreShortestFrom}
use Rattle.x690.proofs.shortest.are_shortest_from.Given as goal

-- the whole is shortest exactly where the rest is
abbrev pub invariant-loop-octet : goal.invariant-loop-octet
invariant-loop-octet l = AreShortestFrom true l.content ↔ AreShortestFrom l.start (drop l.octet-index l.content)
