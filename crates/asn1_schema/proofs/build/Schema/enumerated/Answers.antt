use Rattle.std.proofs.Common.{refl, ap, map}
use Rattle.asn1_schema.specs.Build.{IsEnumerated, universal}
use Rattle.asn1_schema.proofs.Builds.{put_like}
use Rattle.asn1_schema.specs.BuildNames.{label_of}
use Rattle.asn1_schema.proofs.BuiltNames.{put_labels}
use Rattle.asn1_schema.proofs.build.Schema.enumerated.Goals as goal

pub returns-clause-puts : goal.returns-clause-puts
returns-clause-puts c =
    put_like c.tagged.result c.args.self.now.nodes.items c.tagged.new.self.nodes.items c.universal.result (universal 10) _
    (IsEnumerated c.args.numbers.now c.args.extensible) c.universal.ensures (c.in_ok-listed.ensures, refl) c.tagged.ensures.puts

pub returns-clause-names : goal.returns-clause-names
returns-clause-names c =
    put_labels c.tagged.result c.args.self.now c.tagged.new.self c.args.name.now
    c.in_ok-labels.labels.items (map label_of c.args.numbers.now) (ap (map label_of) c.in_ok-labels.ensures.items)
    c.tagged.ensures.names
