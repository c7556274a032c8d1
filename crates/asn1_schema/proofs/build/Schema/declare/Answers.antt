use Rattle.std.proofs.Common.{◌≡◌, ℕ, ap, refl, length, None, rules, [], map}
use Rattle.asn1_schema.specs.declared.schema.Kind.TheVariants as kinds
use Rattle.asn1_schema.specs.declared.schema.Kind.{Kind}
use Rattle.asn1_schema.proofs.Builds.{put_like}
use Rattle.asn1_schema.specs.BuildNames.{label_of}
use Rattle.asn1_schema.proofs.BuiltNames.{put_labels}
use Rattle.asn1_schema.proofs.build.Schema.declare.Goals as goal

pub returns-clause-puts : goal.returns-clause-puts
returns-clause-puts c =
    let own : c.len-own.result ≡ length c.args.self.now.nodes.items = search rules in
    put_like c.tagged.result c.args.self.now.nodes.items c.tagged.new.self.nodes.items c.args.tag c.args.tag _
    (λ (kind : Kind). kind ≡ kinds.Within (length c.args.self.now.nodes.items) None None) refl
    (ap (λ (place : ℕ). kinds.Within place None None) own) c.tagged.ensures.puts

pub returns-clause-names : goal.returns-clause-names
returns-clause-names c =
    put_labels c.tagged.result c.args.self.now c.tagged.new.self c.args.name.now
    c.new-labels.result.items [] (ap (map label_of) c.new-labels.ensures.items)
    c.tagged.ensures.names
