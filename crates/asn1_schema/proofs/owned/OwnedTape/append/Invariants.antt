use Rattle.std.proofs.Common.{take}
use Rattle.asn1_schema.specs.Tape.{marks}
use Rattle.asn1_schema.specs.Owned.{Appends}
use Rattle.asn1_schema.proofs.owned.OwnedTape.append.Given as goal

abbrev pub invariant-loop-item : goal.invariant-loop-item
invariant-loop-item l = Appends l.fn.self l.self (marks (take l.item-index l.tape))
