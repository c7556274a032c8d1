use Rattle.std.proofs.Common.{◌≡◌, ◌++◌, take}
use Rattle.asn1_typed.specs.Sought.{bearers_text}
use Rattle.asn1_typed.proofs.sought.TypeName.push_bearers.Given as goal

-- the names so far
abbrev pub invariant-loop-named : goal.invariant-loop-named
invariant-loop-named l = l.text.items ≡ l.fn.text.items ++ bearers_text l.self (take l.named-index l.types)
