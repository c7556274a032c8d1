use Rattle.std.proofs.Common.{arith}
use Rattle.x690.specs.Times.{SaysUtcEnd}
use Rattle.x690.specs.Laws.Times.{time_behind_minute}
use Rattle.x690.proofs.times.reading.read_utc_time.Goals as goal

pub returns-clause-none : goal.returns-clause-none
returns-clause-none c none m says =
    let year = c.in_ok-year in
    let start = c.in_ok-start in
    c.utc_end.ensures.none none m says.range.second
    (time_behind_minute 2 SaysUtcEnd c.args.text.now year.rest.now start.rest.now year.year start.start m
    (omega (arith, year.ensures.some.0)) year.ensures.some.1 start.ensures.range start.ensures.some says).1
