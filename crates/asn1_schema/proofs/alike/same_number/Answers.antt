use Rattle.std.proofs.Common.{rules, ◌≡◌, ◌∙◌, sym, ap, subst}
use Rattle.std.specs.Prelude.{ℤ}
use Rattle.x690.specs.Digits.{twos_complement_value}
use Rattle.x690.specs.Integers.{IsIntegerContent}
use Rattle.x690.specs.Laws.Integers.{integer_content_unique}
use Rattle.asn1_schema.proofs.alike.same_number.Goals as goal

pub returns : goal.returns
returns c =
    let l = c.shortest.ensures in
    let r = c.shortest-2.ensures in (
      λ e.
          let same : c.shortest.result.now ≡ c.shortest-2.result.now = search rules in
          sym l.value ∙ (ap twos_complement_value same ∙ r.value),
      λ e.
          let same : c.shortest.result.now ≡ c.shortest-2.result.now = integer_content_unique
          (twos_complement_value c.args.right.now) c.shortest.result.now c.shortest-2.result.now
          (subst (λ (n : ℤ). IsIntegerContent n c.shortest.result.now) e l) r in
          search rules,
    )
