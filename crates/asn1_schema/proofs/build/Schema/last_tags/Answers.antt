use Rattle.std.proofs.Common.{ap, List}
use Rattle.std.specs.List.{list_any}
use Rattle.asn1_schema.specs.declared.schema.TypeTag.{TypeTag}
use Rattle.asn1_schema.specs.declared.schema.Tags.TheVariants as tags
use Rattle.asn1_schema.specs.Grammar.{is_tag_of}
use Rattle.asn1_schema.proofs.BuiltTags.{no_part_yet, one_part_more}
use Rattle.asn1_schema.proofs.build.Schema.last_tags.Goals as goal

pub loop-part-init : goal.loop-part-init
loop-part-init c = no_part_yet c.args.self.now.nodes.items c.args.parts.now (tags.Among c.new.result)
    (λ id. ap (λ (xs : List TypeTag). list_any (is_tag_of id) xs) c.new.ensures.items)

pub loop-part-preserved : goal.loop-part-preserved
loop-part-preserved c = one_part_more c.args.self.now.nodes.items c.args.parts.now c.loop-part.part-index _ c.loop-part.tags
    c.in_ok-tags.tags c.loop-part-test.true c.loop-part.invariant c.in_ok-tags.ensures
