use Rattle.std.proofs.Common.{refl, map}
use Rattle.asn1_schema.specs.Build.{IsSequenceRow, universal}
use Rattle.asn1_schema.proofs.Builds.{put_like}
use Rattle.asn1_schema.specs.BuildNames.{placed_from}
use Rattle.asn1_schema.proofs.BuiltNames.{put_labels}
use Rattle.asn1_schema.proofs.build.Schema.row.Goals as goal

pub returns-clause-puts : goal.returns-clause-puts
returns-clause-puts c =
    put_like c.tagged.result c.args.self.now.nodes.items c.tagged.new.self.nodes.items c.universal.result (universal 16) _
    (IsSequenceRow c.args.parts.now c.args.unknown) c.universal.ensures (c.in_ok-fields.ensures, refl)
    c.tagged.ensures.puts

pub returns-clause-names : goal.returns-clause-names
returns-clause-names c =
    put_labels c.tagged.result c.args.self.now c.tagged.new.self c.args.name.now
    c.in_ok-labels.labels.items (placed_from 0 (map (λ p. p.name.now) c.args.parts.now)) c.in_ok-labels.ensures
    c.tagged.ensures.names
