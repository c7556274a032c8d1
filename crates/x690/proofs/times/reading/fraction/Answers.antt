use Rattle.std.proofs.Common.{ℕ, ◌+◌, List, ◌∷◌, Some, refl, sym, ap, ◌∙◌}
use Rattle.x690.specs.Times.{digits}
use Rattle.x690.specs.Laws.Times.Zones.{fraction_behind_point}
use Rattle.x690.proofs.times.reading.fraction.Goals as goal

pub returns-in_err-milliseconds-clause-only : goal.returns-in_err-milliseconds-clause-only
returns-in_err-milliseconds-clause-only c fraction zone milliseconds said part zones e =
    let point = c.in-Some.ensures.some in
    let (count, n, few, h, behind, value) = fraction_behind_point c.args.text.now c.in-Some.digits.now fraction zone
    point.0 milliseconds said point.1 point.2 part zones e in
    absurd (c.in_err-milliseconds.ensures.only count n zone said few h zones behind)

pub returns-clause-some : goal.returns-clause-some
returns-clause-some c =
    let point = c.in-Some.ensures.some in
    let some = c.in_ok-milliseconds.ensures.some in (
      point.0 ∷ digits (1 + some.0) some.1,
      (point.0, some.0, some.1, point.1, some.2, some.3, refl, some.5),
      point.2 ∙ ap (λ (ys : List ℕ). point.0 ∷ ys) some.4,
    )

pub returns-clause-only : goal.returns-clause-only
returns-clause-only c fraction zone milliseconds said part zones e =
    let point = c.in-Some.ensures.some in
    let (count, n, few, h, behind, value) = fraction_behind_point c.args.text.now c.in-Some.digits.now fraction zone
    point.0 milliseconds said point.1 point.2 part zones e in
    let r = c.in_ok-milliseconds.ensures.only count n zone said few h zones behind in
    (ap Some r.0 ∙ sym value, r.1)
