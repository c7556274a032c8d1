use Rattle.std.proofs.Common.{◌∙◌, ap, sym, refl, subst, ℤ, Some}
use Rattle.x690.specs.Digits.{twos_complement_value}
use Rattle.json.specs.Json.{Json}
use Rattle.json.specs.Value.{value_view}
use Rattle.asn1_words.specs.Words.{integer_text}
use Rattle.asn1_schema.specs.declared.schema.Kind.TheVariants as kinds
use Rattle.asn1_schema.specs.Values.{LeafValue}
use Rattle.asn1_schema.specs.Values as values
use Rattle.asn1_json.specs.DenotedLeaves.{DenotesListed}
use Rattle.asn1_json.specs.Outcomes.{ReadsLeaf}
use Rattle.asn1_json.specs.Types.{labels_at}
use Rattle.asn1_json.proofs.Views.{number_view, string_view}
use Rattle.asn1_json.proofs.MadeLeaves.{put_leaf, no_leaf, some_is, none_is}
use Rattle.asn1_json.proofs.Unread.{no_listed}
use Rattle.asn1_json.proofs.reading.leaf.read_listed.Goals as goal

pub returns-in-Some : goal.returns-in-Some
returns-in-Some c = λ numbers extensible.
    let labels = labels_at c.args.by.types.names.now (Some c.args.at) in
    let n : ℤ = twos_complement_value c.deref.result.now in
    let j = value_view c.args.value.now in
    let is = ap value_view c.in-Number.is ∙ number_view _ c.in-Number.text in
    let said = some_is _ _ c.in_ok-content-in-Number.field-0 c.in-Some.content c.in-Some.is c.in_ok-content-in-Number.ensures in
    let same = ap twos_complement_value (sym c.deref.ensures.value) in
    put_leaf (values.enumerated n) labels (kinds.Enumerated numbers extensible) j _ _ _ c.put.result (c.put.ensures (values.enumerated n) refl)
    (n, subst (λ (k : Json). DenotesListed labels k n) (sym is) (said.0 ∙ ap integer_text same), refl)
    (λ m d has. d.2 ∙ ap values.enumerated (said.1 d.0 (subst (λ (k : Json). DenotesListed labels k d.0) is d.1) ∙ same))

pub returns-in-String : goal.returns-in-String
returns-in-String c = λ numbers extensible.
    subst (λ (j : Json). ReadsLeaf c.args.by c.args.of (labels_at c.args.by.types.names.now (Some c.args.at)) (kinds.Enumerated numbers extensible) j
    c.args.made.now c.read_name.new.made c.read_name.result) (sym (ap value_view c.in-String.is ∙ string_view _ c.in-String.name))
    (c.read_name.ensures numbers extensible)

pub returns-in-None : goal.returns-in-None
returns-in-None c = λ numbers extensible refused.
    let labels = labels_at c.args.by.types.names.now (Some c.args.at) in
    let is = ap value_view c.in-Number.is ∙ number_view _ c.in-Number.text in
    let none = none_is _ _ c.in_ok-content-in-Number.field-0 c.in-None.is c.in_ok-content-in-Number.ensures in
    no_leaf labels (kinds.Enumerated numbers extensible) (value_view c.args.value.now) _ (λ m d.
    none d.0 (subst (λ (k : Json). DenotesListed labels k d.0) is d.1))

pub returns-in_default : goal.returns-in_default
returns-in_default c = λ numbers extensible refused.
    let labels = labels_at c.args.by.types.names.now (Some c.args.at) in
    no_leaf labels (kinds.Enumerated numbers extensible) (value_view c.args.value.now) _ (λ m d.
    no_listed c.args.value.now labels c.in_default.not-String c.in_default.not-Number d.0 d.1)
