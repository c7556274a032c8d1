use Rattle.std.proofs.Common.{ap, sym, ◌∙◌, ℕ, List, ◌++◌, arith}
use Rattle.x690.specs.Times.{to_minute, digits, z_text}
use Rattle.x690.specs.Laws.Times.Digits.{digits_front}
use Rattle.x690.proofs.StrictTexts.{in_year}
use Rattle.x690.proofs.times.strict_texts.is_strict_utc_text.Goals as goal

pub returns-in-Some-behind_second : goal.returns-in-Some-behind_second
returns-in-Some-behind_second c =
    let year = c.in-Some.field-0-0 in
    let front = c.in-Some.ensures.some in
    let told = c.in-Some-behind_second.ensures in
    let m = told.some.0 in
    let end = c.in-Some-behind_second.end.now in (
      λ yes. (
        record m { year = year },
        in_year year m told.some.1,
        omega (arith, front.0),
        front.1 ∙ ap (λ (o : List ℕ). digits 2 year ++ o) (told.some.2
            ∙ ap (λ (o : List ℕ). to_minute m ++ digits 2 m.second ++ o) (c.is_z.ensures.0 yes)),
      ),
      λ said. c.is_z.ensures.1 (told.only said.0 z_text said.1
          (digits_front 2 year said.0.year c.in-Some.rest.now (to_minute said.0 ++ digits 2 said.0.second ++ z_text)
          (omega (arith, front.0)) said.2 (sym front.1 ∙ said.3)).1),
    )
