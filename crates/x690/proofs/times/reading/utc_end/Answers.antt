use Rattle.std.proofs.Common.{refl}
use Rattle.x690.specs.Laws.Times.Ends.{utc_end_behind}
use Rattle.x690.proofs.times.reading.utc_end.Goals as goal

pub returns-in_err-zone-clause-none : goal.returns-in_err-zone-clause-none
returns-in_err-zone-clause-none c none m h says =
    let second = c.in_ok-second in
    c.in_err-zone.ensures.none refl m.zone (utc_end_behind c.args.text.now second.rest.now second.second m
    second.ensures.some.0 second.ensures.some.1 h says)
