use Rattle.std.proofs.Common.{◌∙◌, ap, sym, refl, subst, ℕ, List, []}
use Rattle.x690.specs.Elements.{IsStrictElement}
use Rattle.x690.specs.Identifiers.{Identifier}
use Rattle.x690.specs.Laws.StrictElements.{strict_element_unique}
use Rattle.json.specs.Value.{value_view}
use Rattle.asn1_schema.specs.declared.schema.Kind.TheVariants as kinds
use Rattle.asn1_schema.specs.Values as values
use Rattle.asn1_json.specs.DenotedLeaves.{IsHexadecimal}
use Rattle.asn1_json.specs.Outcomes.{IsElementFound}
use Rattle.asn1_json.proofs.Views.{string_view}
use Rattle.asn1_json.proofs.MadeLeaves.{put_leaf, no_leaf, some_is, text_there}
use Rattle.asn1_json.proofs.Unread.{no_string}
use Rattle.asn1_json.proofs.reading.leaf.read_element.Goals as goal

pub returns-in-Some-2 : goal.returns-in-Some-2
returns-in-Some-2 c =
    let j = value_view c.args.value.now in
    let s = c.in-String.text.now in
    let o = c.in-Some.octets.items in
    let is = ap value_view c.in-String.is ∙ string_view _ c.in-String.text in
    let said = some_is _ _ c.in_ok-octets.field-0 c.in-Some.octets c.in-Some.is c.in_ok-octets.ensures in
    let e = subst (IsElementFound c.deref.result.now) c.in-Some-2.is c.in_ok-item.ensures in
    let strict = subst (λ (x : List ℕ). IsStrictElement x e.0 e.1) c.deref.ensures.value e.2 in
    put_leaf (values.any e.0 e.1) [] kinds.Any j _ _ _ c.put.result (c.put.ensures (values.any e.0 e.1) e.3)
    (s, e.1, e.0, is, (o, said.0, strict), refl)
    (λ m d has.
    let same = said.1 d.4.0 (text_there IsHexadecimal s j is d.0 d.4.0 d.3 d.4.1) in
    let one = strict_element_unique o o [] [] d.2 e.0 d.1 e.1 (subst (λ (x : List ℕ). IsStrictElement x d.2 d.1) same d.4.2) strict refl in
    d.5 ∙ ap (λ (i : Identifier). values.any i d.1) one.1 ∙ ap (λ (x : List ℕ). values.any e.0 x) one.2)

pub returns : goal.returns
returns c =
    let j = value_view c.args.value.now in
    let s = c.in-String.text.now in
    let is = ap value_view c.in-String.is ∙ string_view _ c.in-String.text in
    let said = some_is _ _ c.in_ok-octets.field-0 c.in-Some.octets c.in-Some.is c.in_ok-octets.ensures in
    let none = subst (IsElementFound c.deref.result.now) c.in-None.is c.in_ok-item.ensures in
    λ refused. no_leaf [] kinds.Any j _ (λ m d.
    let same = said.1 d.4.0 (text_there IsHexadecimal s j is d.0 d.4.0 d.3 d.4.1) in
    none d.2 d.1 (subst (λ (x : List ℕ). IsStrictElement x d.2 d.1) (same ∙ sym c.deref.ensures.value) d.4.2))

pub returns-in_default : goal.returns-in_default
returns-in_default c = λ refused. no_leaf [] kinds.Any (value_view c.args.value.now) _ (λ m d. no_string c.args.value.now c.in_default.not-String d.0 d.3)
