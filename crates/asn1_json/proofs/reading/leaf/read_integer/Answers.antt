use Rattle.std.proofs.Common.{◌∙◌, ap, sym, refl, subst, ℤ, []}
use Rattle.x690.specs.Digits.{twos_complement_value}
use Rattle.json.specs.Json.{Json}
use Rattle.json.specs.Value.{value_view}
use Rattle.asn1_words.specs.Words.{integer_text}
use Rattle.asn1_schema.specs.declared.schema.Kind.TheVariants as kinds
use Rattle.asn1_schema.specs.Values.{LeafValue}
use Rattle.asn1_schema.specs.Values as values
use Rattle.asn1_json.specs.DenotedLeaves.{DenotesInteger}
use Rattle.asn1_json.proofs.Views.{number_view}
use Rattle.asn1_json.proofs.MadeLeaves.{put_leaf, no_leaf, some_is, none_is}
use Rattle.asn1_json.proofs.Unread.{no_number}
use Rattle.asn1_json.proofs.reading.leaf.read_integer.Goals as goal

pub returns-in-Some : goal.returns-in-Some
returns-in-Some c =
    let n : ℤ = twos_complement_value c.deref.result.now in
    let j = value_view c.args.value.now in
    let is = ap value_view c.in-Number.is ∙ number_view _ c.in-Number.text in
    let said = some_is _ _ c.in_ok-content.field-0 c.in-Some.content c.in-Some.is c.in_ok-content.ensures in
    let same = ap twos_complement_value (sym c.deref.ensures.value) in
    put_leaf (values.integer n) [] kinds.Integer j _ _ _ c.put.result (c.put.ensures (values.integer n) refl)
    (n, subst (λ (k : Json). DenotesInteger k n) (sym is) (said.0 ∙ ap integer_text same), refl)
    (λ m d has. d.2 ∙ ap values.integer (said.1 d.0 (subst (λ (k : Json). DenotesInteger k d.0) is d.1) ∙ same))

pub returns-in-None : goal.returns-in-None
returns-in-None c =
    let is = ap value_view c.in-Number.is ∙ number_view _ c.in-Number.text in
    let none = none_is _ _ c.in_ok-content.field-0 c.in-None.is c.in_ok-content.ensures in
    λ refused. no_leaf [] kinds.Integer (value_view c.args.value.now) _ (λ m d.
    none d.0 (subst (λ (k : Json). DenotesInteger k d.0) is d.1))

pub returns-in_default : goal.returns-in_default
returns-in_default c = λ refused. no_leaf [] kinds.Integer (value_view c.args.value.now) _ (λ m d. no_number c.args.value.now c.in_default.not-Number d.0 d.1)
