use Rattle.std.proofs.Common.{◌≡◌, ◌∷◌, arith}
use Rattle.x690.proofs.StrictTexts.{point_told}
use Rattle.x690.proofs.times.strict_texts.is_strict_end.Goals as goal

pub returns-in-Some-eq46-default : goal.returns-in-Some-eq46-default
returns-in-Some-eq46-default c =
    let text = c.args.text.now in
    let digits = c.in-Some-eq46-default.digits.now in
    let point = c.in-Some-eq46-default.field-0-0-test in
    let first : text ≡ 46 ∷ digits = grind (arith, point, c.in-Some-eq46-default.ensures.cases) in
    let told = point_told text digits first in
    let answer = c.are_strict_digits.ensures in
    (λ yes. told.0 (answer.0 yes), λ said. answer.1 (told.1 said))
