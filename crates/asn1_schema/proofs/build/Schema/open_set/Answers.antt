use Rattle.std.proofs.Common.{ℕ, Some, map}
use Rattle.asn1_schema.specs.Build.{IsLike, IsSetRow, universal}
use Rattle.asn1_schema.proofs.Builds.{put_open}
use Rattle.asn1_schema.specs.BuildNames.{HasPartNames}
use Rattle.asn1_schema.proofs.BuiltNames.{put_open_names}
use Rattle.asn1_schema.proofs.build.Schema.open_set.Goals as goal

pub returns-clause-puts : goal.returns-clause-puts
returns-clause-puts c =
    put_open c.set_row.result c.args.self.now.nodes.items c.unknown.new.self.nodes.items c.set_row.new.self.nodes.items
    c.in_ok-unknown.unknown c.in_ok-tags.tags (map (λ p. p.of) c.args.parts.now)
    (λ (unknown : ℕ). IsLike (universal 17) (IsSetRow c.args.parts.now (Some unknown))) c.in_ok-tags.ensures
    c.in_ok-unknown.ensures.puts c.set_row.ensures.puts

pub returns-clause-names : goal.returns-clause-names
returns-clause-names c =
    put_open_names c.set_row.result c.args.self.now c.unknown.new.self c.set_row.new.self
    (HasPartNames c.args.name.now c.args.parts.now) c.in_ok-unknown.ensures.names
    c.set_row.ensures.names
