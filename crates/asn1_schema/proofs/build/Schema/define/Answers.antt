use Rattle.std.proofs.Common.{◌≡◌, List, refl, ◌∙◌, ap, subst, slice_get, slice_set}
use Rattle.asn1_schema.specs.declared.names.TypeNames.{TypeNames}
use Rattle.asn1_schema.proofs.Builds.{is_defined}
use Rattle.asn1_schema.proofs.BuiltNames.{are_defined}
use Rattle.asn1_schema.proofs.build.Schema.define.Goals as goal

pub returns-clause-ok : goal.returns-clause-ok
returns-clause-ok c = is_defined c.args.self.now.nodes.items c.set_labels.new.self.nodes.items
    c.args.place c.args.of c.in-Some.node.now c.in_ok-kind.kind (c.if-not-is_declared.ensures.nodes refl)
    (cc (c.in-Some.ensures.some, c.deref.ensures.value)) c.in_ok-kind.ensures
    (λ declared hole. c.set_labels.ensures.nodes ∙ c.set_kind.ensures.nodes declared hole)

pub returns-clause-names : goal.returns-clause-names
returns-clause-names c = are_defined c.args.self.now.names.items c.set_labels.new.self.names.items
    c.args.place c.args.of c.in_ok-labels.field-0 (c.if-not-is_declared.ensures.names refl) c.in_ok-labels.ensures
    (λ own hole. subst (λ (names : List TypeNames). c.set_labels.new.self.names.items ≡
    slice_set names c.args.place (record own { labels = c.in_ok-labels.field-0.labels })) c.set_kind.ensures.names
    (c.set_labels.ensures.names own
    (ap (λ (names : List TypeNames). slice_get names c.args.place) c.set_kind.ensures.names ∙ hole)))
