use Rattle.std.proofs.Common.{◌≡◌, ◌∙◌, ap, sym, refl, subst, [], encode_utf8_all}
use Rattle.x690.specs.Octets.{IsOctets}
use Rattle.json.specs.Value.{value_view}
use Rattle.asn1_schema.specs.declared.schema.Kind.TheVariants as kinds
use Rattle.asn1_schema.specs.Values.{LeafValue}
use Rattle.asn1_schema.specs.Values as values
use Rattle.asn1_json.proofs.Views.{string_view}
use Rattle.asn1_json.proofs.MadeLeaves.{put_leaf, no_leaf, some_is, none_is, one_said, none_said}
use Rattle.asn1_json.proofs.Unread.{no_string}
use Rattle.asn1_json.proofs.reading.leaf.read_time.Goals as goal

pub returns-in-Some : goal.returns-in-Some
returns-in-Some c =
    let o = c.deref.result.now in
    let s = c.in-String.text.now in
    let is = ap value_view c.in-String.is ∙ string_view _ c.in-String.text in
    let said = some_is _ _ c.in_ok-octets.field-0 c.in-Some.octets c.in-Some.is c.in_ok-octets.ensures in
    let same = sym c.deref.ensures.value in
    put_leaf (values.time c.args.kind o) [] (kinds.Time c.args.kind) (value_view c.args.value.now) _ _ _ c.put.result
    (c.put.ensures (values.time c.args.kind o) refl)
    (s, o, is, subst IsOctets same said.0.0, said.0.1 ∙ ap encode_utf8_all same, refl)
    (λ m d has. one_said (λ t x. IsOctets x × (t ≡ encode_utf8_all x)) s (value_view c.args.value.now) is (values.time c.args.kind) _ o same
    said.1 m (d.0, d.1, d.2, (d.3, d.4), d.5))

pub returns-in-None : goal.returns-in-None
returns-in-None c =
    let is = ap value_view c.in-String.is ∙ string_view _ c.in-String.text in
    let none = none_is _ _ c.in_ok-octets.field-0 c.in-None.is c.in_ok-octets.ensures in
    λ refused. no_leaf [] (kinds.Time c.args.kind) (value_view c.args.value.now) _ (λ m d.
    none_said (λ t x. IsOctets x × (t ≡ encode_utf8_all x)) c.in-String.text.now (value_view c.args.value.now) is none d.0 d.1 d.2 (d.3, d.4))

pub returns-in_default : goal.returns-in_default
returns-in_default c = λ refused. no_leaf [] (kinds.Time c.args.kind) (value_view c.args.value.now) _ (λ m d. no_string c.args.value.now c.in_default.not-String d.0 d.2)
