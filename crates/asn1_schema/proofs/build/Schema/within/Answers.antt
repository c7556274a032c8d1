use Rattle.std.proofs.Common.{refl, ap, map}
use Rattle.asn1_schema.specs.Build.{IsBounded}
use Rattle.asn1_schema.proofs.Builds.{put_added}
use Rattle.asn1_schema.specs.BuildNames.{label_of, HasName}
use Rattle.asn1_schema.proofs.BuiltNames.{put_names}
use Rattle.asn1_schema.proofs.build.Schema.within.Goals as goal

pub returns-clause-puts : goal.returns-clause-puts
returns-clause-puts c =
    put_added c.put.result c.args.self.now.nodes.items c.put.new.self.nodes.items _
    (IsBounded c.args.self.now.nodes.items c.args.of c.args.lower c.args.upper)
    c.put.ensures.place c.put.ensures.nodes c.put.ensures.err
    (c.in-Some.node.now, cc (c.in-Some.ensures.some, c.deref.ensures.value), c.in_ok-tags.ensures, refl)

pub returns-clause-names : goal.returns-clause-names
returns-clause-names c =
    put_names c.put.result c.args.self.now c.put.new.self _
    (HasName c.args.name.now) c.put.ensures.names c.put.ensures.names_err
    (refl, ap (map label_of) c.new-labels.ensures.items)
