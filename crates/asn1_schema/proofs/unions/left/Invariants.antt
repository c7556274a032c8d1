use Rattle.std.proofs.Common.{drop}
use Rattle.std.specs.Prelude.{not}
use Rattle.x690.specs.Identifiers.{Identifier}
use Rattle.asn1_schema.proofs.BuiltTags.{has_one, KeptTags}
use Rattle.asn1_schema.proofs.unions.left.Given as goal

abbrev pub invariant-loop-tag : goal.invariant-loop-tag
invariant-loop-tag l = KeptTags (λ (id : Identifier). not (has_one l.others id)) (drop l.tag-index l.tags) l.tags l.kept.items
