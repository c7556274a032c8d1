use Rattle.std.proofs.Common.{◌∙◌, ap, sym, refl, []}
use Rattle.json.specs.Value.{value_view}
use Rattle.asn1_schema.specs.declared.schema.Kind.TheVariants as kinds
use Rattle.asn1_schema.specs.Values.{LeafValue}
use Rattle.asn1_schema.specs.Values as values
use Rattle.asn1_json.proofs.Views.{truth_view}
use Rattle.asn1_json.proofs.MadeLeaves.{put_leaf, no_leaf, same_truth}
use Rattle.asn1_json.proofs.Unread.{no_truth}
use Rattle.asn1_json.proofs.reading.leaf.read_boolean.Goals as goal

pub returns-in-Bool : goal.returns-in-Bool
returns-in-Bool c =
    let j = value_view c.args.value.now in
    let is = ap value_view c.in-Bool.is ∙ truth_view _ c.in-Bool.truth in
    put_leaf (values.boolean c.in-Bool.truth) [] kinds.Boolean j _ _ _ c.put.result
    (c.put.ensures (values.boolean c.in-Bool.truth) refl) (c.in-Bool.truth, is, refl)
    (λ m d has. d.2 ∙ ap values.boolean (sym (same_truth c.in-Bool.truth d.0 (sym is ∙ d.1))))

pub returns-in_default : goal.returns-in_default
returns-in_default c = λ refused. no_leaf [] kinds.Boolean (value_view c.args.value.now) _ (λ m d. no_truth c.args.value.now c.in_default.not-Bool d.0 d.1)
