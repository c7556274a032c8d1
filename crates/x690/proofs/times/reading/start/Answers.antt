use Rattle.std.proofs.Common.{◌++◌, refl, sym, ◌∙◌}
use Rattle.x690.specs.Times.{digits}
use Rattle.x690.specs.Laws.Times.Digits.{digits_part}
use Rattle.x690.proofs.times.reading.start.Goals as goal

pub returns-in_err-hour-clause-none : goal.returns-in_err-hour-clause-none
returns-in_err-hour-clause-none c none m rest range e =
    let month = c.in_ok-month in
    let day = c.in_ok-day in
    let behind_month = digits_part 2 month.month m.month month.rest.now
    (digits 2 m.day ++ digits 2 m.hour ++ digits 2 m.minute ++ rest) (sym month.ensures.some.1 ∙ e) in
    let behind_day = digits_part 2 day.day m.day day.rest.now (digits 2 m.hour ++ digits 2 m.minute ++ rest)
    (sym day.ensures.some.1 ∙ behind_month.1) in
    c.in_err-hour.ensures.none refl m.hour (digits 2 m.minute ++ rest) range.hour behind_day.1

pub returns-in_err-minute-clause-none : goal.returns-in_err-minute-clause-none
returns-in_err-minute-clause-none c none m rest range e =
    let month = c.in_ok-month in
    let day = c.in_ok-day in
    let hour = c.in_ok-hour in
    let behind_month = digits_part 2 month.month m.month month.rest.now
    (digits 2 m.day ++ digits 2 m.hour ++ digits 2 m.minute ++ rest) (sym month.ensures.some.1 ∙ e) in
    let behind_day = digits_part 2 day.day m.day day.rest.now (digits 2 m.hour ++ digits 2 m.minute ++ rest)
    (sym day.ensures.some.1 ∙ behind_month.1) in
    let behind_hour = digits_part 2 hour.hour m.hour hour.rest.now (digits 2 m.minute ++ rest)
    (sym hour.ensures.some.1 ∙ behind_day.1) in
    c.in_err-minute.ensures.none refl m.minute rest range.minute behind_hour.1
