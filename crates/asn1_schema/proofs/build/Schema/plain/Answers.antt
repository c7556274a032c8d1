use Rattle.std.proofs.Common.{[], ap, map}
use Rattle.asn1_schema.specs.BuildNames.{label_of}
use Rattle.asn1_schema.proofs.BuiltNames.{put_labels}
use Rattle.asn1_schema.proofs.build.Schema.plain.Goals as goal

pub returns-clause-names : goal.returns-clause-names
returns-clause-names c =
    put_labels c.tagged.result c.args.self.now c.tagged.new.self c.args.name.now
    c.new-labels.result.items [] (ap (map label_of) c.new-labels.ensures.items)
    c.tagged.ensures.names
