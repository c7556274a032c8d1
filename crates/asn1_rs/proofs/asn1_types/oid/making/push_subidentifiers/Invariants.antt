use Rattle.std.proofs.Common.{◌≡◌, ◌++◌, take}
use Rattle.x690.specs.Arcs.{subidentifier_octets}
use Rattle.asn1_rs.proofs.asn1_types.oid.making.push_subidentifiers.Given as goal

abbrev pub invariant-loop-number : goal.invariant-loop-number
invariant-loop-number l =
    l.octets.items ≡ l.initial.octets.items ++ subidentifier_octets (take l.number-index l.numbers)
