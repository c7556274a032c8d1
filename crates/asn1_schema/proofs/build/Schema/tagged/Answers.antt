use Rattle.std.proofs.Common.{refl}
use Rattle.asn1_schema.specs.Build.{IsOf}
use Rattle.asn1_schema.proofs.Builds.{put_added}
use Rattle.asn1_schema.specs.BuildNames.{HasLabels}
use Rattle.asn1_schema.proofs.BuiltNames.{put_names}
use Rattle.asn1_schema.proofs.build.Schema.tagged.Goals as goal

pub returns-clause-puts : goal.returns-clause-puts
returns-clause-puts c =
    put_added c.put.result c.args.self.now.nodes.items c.put.new.self.nodes.items _ (IsOf c.args.tag c.args.kind)
    c.put.ensures.place c.put.ensures.nodes c.put.ensures.err (c.in_ok-tags.ensures, refl)

pub returns-clause-names : goal.returns-clause-names
returns-clause-names c =
    put_names c.put.result c.args.self.now c.put.new.self _
    (HasLabels c.args.name.now c.args.labels.items) c.put.ensures.names c.put.ensures.names_err
    (refl, refl)
