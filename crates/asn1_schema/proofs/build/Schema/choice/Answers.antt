use Rattle.std.proofs.Common.{map, refl}
use Rattle.asn1_schema.specs.declared.schema.Node.{Node}
use Rattle.asn1_schema.specs.Build.{IsChoiceOf, AreTagsOf}
use Rattle.asn1_schema.proofs.Builds.{put_added}
use Rattle.asn1_schema.specs.BuildNames.{HasArms}
use Rattle.asn1_schema.proofs.BuiltNames.{put_names}
use Rattle.asn1_schema.proofs.build.Schema.choice.Goals as goal

pub returns-clause-puts : goal.returns-clause-puts
returns-clause-puts c =
    let places = map (λ a. a.of) c.args.arms.now in
    put_added c.put.result c.args.self.now.nodes.items c.put.new.self.nodes.items _
    (λ (node : Node). IsChoiceOf places node.kind × AreTagsOf c.args.self.now.nodes.items places node.tags)
    c.put.ensures.place c.put.ensures.nodes c.put.ensures.err (c.in_ok-arm_places.ensures, c.in_ok-tags.ensures)

pub returns-clause-names : goal.returns-clause-names
returns-clause-names c =
    put_names c.put.result c.args.self.now c.put.new.self _
    (HasArms c.args.name.now c.args.arms.now) c.put.ensures.names c.put.ensures.names_err
    (refl, c.in_ok-labels.ensures)
