use Rattle.std.proofs.Common.{drop}
use Rattle.asn1_schema.proofs.BuiltTags.{LastTags}
use Rattle.asn1_schema.proofs.build.Schema.last_tags.Given as goal

abbrev pub invariant-loop-part : goal.invariant-loop-part
invariant-loop-part l = LastTags l.self.nodes.items (drop l.part-index l.parts) l.parts l.tags
