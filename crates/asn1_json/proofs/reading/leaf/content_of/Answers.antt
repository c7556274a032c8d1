use Rattle.std.proofs.Common.{◌≡◌, ◌∙◌, sym, subst, Bool, true, false}
use Rattle.std.specs.Prelude.{IfOk}
use Rattle.asn1_json.specs.DenotedLeaves.{DenotesArcsOr, has_arcs}
use Rattle.asn1_json.specs.Found.{FindsOnly}
use Rattle.asn1_json.proofs.reading.leaf.content_of.Goals as goal

pub returns-then-has_arcs : goal.returns-then-has_arcs
returns-then-has_arcs c =
    let e : has_arcs c.args.relative c.args.text.now ≡ true = sym c.has_arcs.ensures ∙ c.if-has_arcs.true in
    subst (λ (b : Bool). IfOk c.identifier_content.result (FindsOnly (λ content. content.items) (DenotesArcsOr b c.args.relative c.args.text.now)))
    (sym e) c.identifier_content.ensures

pub returns : goal.returns
returns c =
    let e : has_arcs c.args.relative c.args.text.now ≡ false = sym c.has_arcs.ensures ∙ c.if-has_arcs.false in
    subst (λ (b : Bool). IfOk c.hexadecimal.result (FindsOnly (λ content. content.items) (DenotesArcsOr b c.args.relative c.args.text.now)))
    (sym e) c.hexadecimal.ensures
