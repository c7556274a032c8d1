use Rattle.std.proofs.Common.{refl}
use Rattle.x690.specs.Times.{SaysGeneralizedEnd}
use Rattle.x690.specs.Laws.Times.{time_behind_year, time_behind_minute}
use Rattle.x690.proofs.times.reading.read_generalized_time.Goals as goal

pub returns-in_err-start-clause-none : goal.returns-in_err-start-clause-none
returns-in_err-start-clause-none c none m says =
    let year = c.in_ok-year in
    c.in_err-start.ensures.none refl m says.end says.range
    (time_behind_year 4 SaysGeneralizedEnd c.args.text.now year.rest.now year.year m year.ensures.some.0
    year.ensures.some.1 says).1

pub returns-clause-none : goal.returns-clause-none
returns-clause-none c none m says =
    let year = c.in_ok-year in
    let start = c.in_ok-start in
    c.generalized_end.ensures.none none m says.range.second
    (time_behind_minute 4 SaysGeneralizedEnd c.args.text.now year.rest.now start.rest.now year.year start.start m
    year.ensures.some.0 year.ensures.some.1 start.ensures.range start.ensures.some says).1
