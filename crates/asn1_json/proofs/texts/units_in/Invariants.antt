use Rattle.std.proofs.Common.{◌≡◌, ◌++◌, length}
use Rattle.asn1_json.specs.Texts.{units_in}
use Rattle.asn1_json.proofs.texts.units_in.Given as goal

abbrev pub invariant-loop-rest : goal.invariant-loop-rest
invariant-loop-rest l = l.units.items ++ units_in l.rest ≡ units_in l.octets

abbrev pub decreases-loop-rest : goal.decreases-loop-rest
decreases-loop-rest l = length l.rest
