use Rattle.std.proofs.Common.{◌≡◌, ◌++◌, ◌∷◌, [], map, refl}
use Rattle.asn1_schema.specs.Build.{IsOpenChoice, universal}
use Rattle.asn1_schema.proofs.Builds.{put_added, put_open}
use Rattle.asn1_schema.specs.BuildNames.{HasArms}
use Rattle.asn1_schema.proofs.BuiltNames.{put_names, put_open_names}
use Rattle.asn1_schema.proofs.build.Schema.open_choice.Goals as goal

pub returns-clause-puts : goal.returns-clause-puts
returns-clause-puts c =
    let arms = map (λ a. a.of) c.args.arms.now in
    let mid = c.unknown.new.self.nodes.items in
    let unknown = c.in_ok-unknown.unknown in
    let ends : c.in_ok-ends.ends.items ≡ universal 0 ∷ [] = cc (c.in_ok-ends.ensures.items, c.universal.ensures) in
    let places : c.push.new.self.items ≡ arms ++ unknown ∷ [] = cc (c.in_ok-push.ensures.items, c.in_ok-places.ensures) in
    put_open c.put.result c.args.self.now.nodes.items mid c.put.new.self.nodes.items unknown c.in_ok-tags.tags arms
    (IsOpenChoice arms) c.in_ok-tags.ensures c.in_ok-unknown.ensures.puts
    (put_added c.put.result mid c.put.new.self.nodes.items _ (IsOpenChoice arms unknown) c.put.ensures.place
    c.put.ensures.nodes c.put.ensures.err (ends, places))

pub returns-clause-names : goal.returns-clause-names
returns-clause-names c =
    let mid = c.unknown.new.self in
    let named = HasArms c.args.name.now c.args.arms.now in
    put_open_names c.put.result c.args.self.now mid c.put.new.self named
    c.in_ok-unknown.ensures.names
    (put_names c.put.result mid c.put.new.self _ named c.put.ensures.names c.put.ensures.names_err
    (refl, c.in_ok-labels.ensures))
