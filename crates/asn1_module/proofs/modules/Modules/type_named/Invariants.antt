use Rattle.std.proofs.Common.{take}
use Rattle.asn1_module.specs.Modules.{LacksType}
use Rattle.asn1_module.proofs.modules.Modules.type_named.Given as goal

abbrev pub invariant-loop-named : goal.invariant-loop-named
invariant-loop-named l = LacksType (take l.named-index l.self.types.items) l.name
