use Rattle.asn1_module.specs.Modules.{HavePlaces}
use Rattle.asn1_module.proofs.modules.named_types.Given as goal

abbrev pub invariant-loop-assignment : goal.invariant-loop-assignment
invariant-loop-assignment l = HavePlaces l.types.items l.count
