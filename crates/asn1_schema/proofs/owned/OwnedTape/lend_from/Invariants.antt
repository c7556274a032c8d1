use Rattle.std.proofs.Common.{◌≡◌, map, take, drop}
use Rattle.asn1_schema.specs.Tape.{marks}
use Rattle.asn1_schema.specs.Owned.{placed_mark}
use Rattle.asn1_schema.proofs.owned.OwnedTape.lend_from.Given as goal

abbrev pub invariant-loop-placed : goal.invariant-loop-placed
invariant-loop-placed l =
    marks l.tape.items ≡ map (placed_mark l.self.octets.items) (take l.placed-index (drop l.start l.self.items.items))
