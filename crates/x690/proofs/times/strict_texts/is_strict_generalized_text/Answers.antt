use Rattle.std.proofs.Common.{ap, sym, ◌∙◌, ℕ, List, ◌++◌}
use Rattle.x690.specs.Times.{to_minute, digits, z_text}
use Rattle.x690.specs.Laws.Times.Digits.{digits_front}
use Rattle.x690.proofs.StrictTexts.{in_year}
use Rattle.x690.proofs.times.strict_texts.is_strict_generalized_text.Goals as goal

pub returns-in-Some-behind_second : goal.returns-in-Some-behind_second
returns-in-Some-behind_second c =
    let year = c.in-Some.field-0-0 in
    let front = c.in-Some.ensures.some in
    let told = c.in-Some-behind_second.ensures in
    let m = told.some.0 in (
      λ yes.
          let end = c.is_strict_end.ensures.0 yes in (
            record m { year = year },
            end.0,
            in_year year m told.some.1,
            front.0,
            end.1,
            front.1 ∙ ap (λ (o : List ℕ). digits 4 year ++ o) (told.some.2
                ∙ ap (λ (o : List ℕ). to_minute m ++ digits 2 m.second ++ o) end.2),
          ),
      λ said. c.is_strict_end.ensures.1 (
        said.1,
        said.4,
        told.only said.0 (said.1 ++ z_text) said.2
            (digits_front 4 year said.0.year c.in-Some.rest.now
            (to_minute said.0 ++ digits 2 said.0.second ++ said.1 ++ z_text) front.0 said.3 (sym front.1 ∙ said.5)).1,
      ),
    )

pub returns-in-None : goal.returns-in-None
returns-in-None c =
    let front = c.in-Some.ensures.some in (
      λ yes. absurd (cc (yes)),
      λ said. absurd (c.in-None.ensures.only said.0 (said.1 ++ z_text) said.2
          (digits_front 4 c.in-Some.field-0-0 said.0.year c.in-Some.rest.now
          (to_minute said.0 ++ digits 2 said.0.second ++ said.1 ++ z_text) front.0 said.3 (sym front.1 ∙ said.5)).1),
    )
