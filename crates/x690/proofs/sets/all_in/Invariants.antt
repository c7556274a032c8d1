use Rattle.std.proofs.Common.{◌≡◌, take}
use Rattle.std.specs.List.{list_all}
use Rattle.x690.proofs.sets.all_in.Given as goal

abbrev pub invariant-loop-octet : goal.invariant-loop-octet
invariant-loop-octet g l = l.all ≡ list_all g.S.CharacterSet.in_set (take l.octet-index l.octets)
