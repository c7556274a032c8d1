use Rattle.std.proofs.Common.{◌∙◌, ap, sym, refl, subst, []}
use Rattle.json.specs.Value.{value_view}
use Rattle.asn1_schema.specs.declared.schema.Kind.TheVariants as kinds
use Rattle.asn1_schema.specs.Values.{identifier}
use Rattle.asn1_json.specs.DenotedLeaves.{DenotesIdentifier}
use Rattle.asn1_json.proofs.Views.{string_view}
use Rattle.asn1_json.proofs.MadeLeaves.{put_leaf, no_leaf, some_is, none_is, one_said, none_said}
use Rattle.asn1_json.proofs.Unread.{no_string}
use Rattle.asn1_json.proofs.reading.leaf.read_identifier.Goals as goal

pub returns-in-Some : goal.returns-in-Some
returns-in-Some c =
    let o = c.deref.result.now in
    let s = c.in-String.text.now in
    let r = c.args.relative in
    let is = ap value_view c.in-String.is ∙ string_view _ c.in-String.text in
    let said = some_is _ _ c.in_ok-content.field-0 c.in-Some.content c.in-Some.is c.in_ok-content.ensures in
    let same = sym c.deref.ensures.value in
    put_leaf (identifier r o) [] (kinds.Identifier r) (value_view c.args.value.now) _ _ _ c.put.result (c.put.ensures (identifier r o) refl)
    (s, o, is, subst (DenotesIdentifier r s) same said.0, refl)
    (λ m d has. one_said (DenotesIdentifier r) s (value_view c.args.value.now) is (identifier r) _ o same said.1 m d)

pub returns-in-None : goal.returns-in-None
returns-in-None c =
    let r = c.args.relative in
    let is = ap value_view c.in-String.is ∙ string_view _ c.in-String.text in
    let none = none_is _ _ c.in_ok-content.field-0 c.in-None.is c.in_ok-content.ensures in
    λ refused. no_leaf [] (kinds.Identifier r) (value_view c.args.value.now) _ (λ m d.
    none_said (DenotesIdentifier r) c.in-String.text.now (value_view c.args.value.now) is none d.0 d.1 d.2 d.3)

pub returns-in_default : goal.returns-in_default
returns-in_default c = λ refused. no_leaf [] (kinds.Identifier c.args.relative) (value_view c.args.value.now) _ (λ m d. no_string c.args.value.now c.in_default.not-String d.0 d.2)
