use Rattle.std.proofs.Common.{◌∙◌, ap, refl, []}
use Rattle.json.specs.Value.{value_view}
use Rattle.asn1_schema.specs.declared.schema.Kind.TheVariants as kinds
use Rattle.asn1_schema.specs.Values.{LeafValue}
use Rattle.asn1_schema.specs.Values as values
use Rattle.asn1_json.proofs.Views.{null_view}
use Rattle.asn1_json.proofs.MadeLeaves.{put_leaf, no_leaf}
use Rattle.asn1_json.proofs.Unread.{no_null}
use Rattle.asn1_json.proofs.reading.leaf.read_null.Goals as goal

pub returns-in-Null : goal.returns-in-Null
returns-in-Null c =
    put_leaf values.null [] kinds.Null (value_view c.args.value.now) _ _ _ c.put.result (c.put.ensures values.null refl)
    (ap value_view c.in-Null.is ∙ null_view _, refl) (λ m d has. d.1)

pub returns-in_default : goal.returns-in_default
returns-in_default c = λ refused. no_leaf [] kinds.Null (value_view c.args.value.now) _ (λ m d. no_null c.args.value.now c.in_default.not-Null d.0)
