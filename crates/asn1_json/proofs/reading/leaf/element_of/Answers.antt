use Rattle.std.proofs.Common.{◌∙◌, ap, sym, refl, subst, ◌<◌}
use Rattle.x690.specs.Elements.{IsStrictElement}
use Rattle.x690.specs.Identifiers.{Identifier}
use Rattle.x690.specs.Strict.{element_octets}
use Rattle.asn1_headers.specs.Class.{class_number}
use Rattle.asn1_json.proofs.ReadElements.{are_strict, few_classes, is_strict, not_strict, own_identifier}
use Rattle.asn1_json.proofs.reading.leaf.element_of.Goals as goal

pub returns-then-branch : goal.returns-then-branch
returns-then-branch c =
    let h = c.in-Ok.header in
    let o = c.args.octets.now in
    let content = c.in-Ok.content.now in
    let same = own_identifier h c.number-class.result c.constructed-constructed.result c.tag-number.result.0
    (c.number-class.ensures ∙ ap class_number c.class.ensures) c.constructed-constructed.ensures (ap (λ t. t.0) c.tag-number.ensures) in
    let is = c.in_ok-is_element.ensures.octets c.if-branch.true ∙ ap (λ (i : Identifier). element_octets i content) same in (
      record { class = c.number-class.result; constructed = c.constructed-constructed.result; number = c.tag-number.result.0 },
      content,
      subst (λ (i : Identifier). IsStrictElement o i content) (sym same)
          (is_strict o h content c.in-Ok.field-0-0.now c.in-Ok.ensures.front is),
      refl,
    )

pub returns : goal.returns
returns c = λ id other s.
    let h = c.in-Ok.header in
    let content = c.in-Ok.content.now in
    let class = c.number-class.ensures ∙ ap class_number c.class.ensures in
    let same = own_identifier h c.number-class.result c.constructed-constructed.result c.tag-number.result.0
    class c.constructed-constructed.ensures (ap (λ t. t.0) c.tag-number.ensures) in
    c.in_ok-is_element.ensures.other c.if-branch.false (subst (λ n. n < 4) (sym class) (few_classes h.class))
    (are_strict c.args.octets.now h content c.in-Ok.field-0-0.now c.in-Ok.ensures.front id other s
    ∙ ap (λ (i : Identifier). element_octets i content) (sym same))

pub returns-in_default : goal.returns-in_default
returns-in_default c = λ id content s.
    let why = c.in_default.ensures in not_strict c.args.octets.now why.0 why.1 id content s
