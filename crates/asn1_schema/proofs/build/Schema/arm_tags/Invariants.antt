use Rattle.std.proofs.Common.{drop}
use Rattle.std.specs.Prelude.{map}
use Rattle.asn1_schema.proofs.BuiltTags.{LeftTags}
use Rattle.asn1_schema.proofs.build.Schema.arm_tags.Given as goal

abbrev pub invariant-loop-arm : goal.invariant-loop-arm
invariant-loop-arm l = LeftTags l.self.nodes.items (map (λ a. a.of) (drop l.arm-index l.arms)) (map (λ a. a.of) l.arms) l.tags
