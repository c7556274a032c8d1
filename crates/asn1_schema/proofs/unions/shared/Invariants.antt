use Rattle.std.proofs.Common.{drop}
use Rattle.asn1_schema.proofs.BuiltTags.{has_one, KeptTags}
use Rattle.asn1_schema.proofs.unions.shared.Given as goal

abbrev pub invariant-loop-tag : goal.invariant-loop-tag
invariant-loop-tag l = KeptTags (has_one l.others) (drop l.tag-index l.tags) l.tags l.kept.items
