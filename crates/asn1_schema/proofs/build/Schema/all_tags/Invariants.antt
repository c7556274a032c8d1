use Rattle.std.proofs.Common.{drop}
use Rattle.std.specs.Prelude.{map}
use Rattle.asn1_schema.proofs.BuiltTags.{LeftTags}
use Rattle.asn1_schema.proofs.build.Schema.all_tags.Given as goal

abbrev pub invariant-loop-part : goal.invariant-loop-part
invariant-loop-part l = LeftTags l.self.nodes.items (map (λ a. a.of) (drop l.part-index l.parts)) (map (λ a. a.of) l.parts) l.tags
