use Rattle.std.proofs.Common.{◌≡◌, refl, ◌||◌, not, ap, map, []}
use Rattle.asn1_schema.specs.declared.schema.Node.{Node}
use Rattle.asn1_schema.specs.declared.schema.Kind.TheVariants as kinds
use Rattle.asn1_schema.specs.Grammar.{has_tag, is_tag_of}
use Rattle.asn1_schema.specs.Build.{universal, Decides}
use Rattle.asn1_schema.proofs.Builds.{put_added}
use Rattle.asn1_schema.proofs.BuiltTags.{unknown_tags}
use Rattle.asn1_schema.specs.BuildNames.{label_of, HasName}
use Rattle.asn1_schema.proofs.BuiltNames.{put_names}
use Rattle.asn1_schema.proofs.build.Schema.unknown.Goals as goal

pub returns-clause-puts : goal.returns-clause-puts
returns-clause-puts c =
    put_added c.put.result c.args.self.now.nodes.items c.put.new.self.nodes.items _ (λ (node : Node). (node.kind ≡ kinds.Any) ×
    Decides (λ id. not (has_tag c.args.tags id || is_tag_of id (universal 0))) node.tags)
    c.put.ensures.place c.put.ensures.nodes c.put.ensures.err (
      refl,
      unknown_tags c.args.tags c.in_ok-end.end c.in_ok-united.field-0 c.all_others.result c.universal.result (universal 0)
          c.in_ok-end.ensures c.universal.ensures c.in_ok-united.ensures c.all_others.ensures,
    )

pub returns-clause-names : goal.returns-clause-names
returns-clause-names c =
    put_names c.put.result c.args.self.now c.put.new.self _
    (HasName []) c.put.ensures.names c.put.ensures.names_err
    (refl, ap (map label_of) c.new-labels.ensures.items)
