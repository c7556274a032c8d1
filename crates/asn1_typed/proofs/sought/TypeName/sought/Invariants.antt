use Rattle.std.proofs.Common.{◌≡◌, take}
use Rattle.asn1_typed.specs.Sought.{sought}
use Rattle.asn1_typed.proofs.sought.TypeName.sought.Given as goal

abbrev pub invariant-loop-named : goal.invariant-loop-named
invariant-loop-named l = l.found ≡ sought l.self (take l.named-index l.types)
