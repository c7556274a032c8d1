use Rattle.std.proofs.Common.{ℕ, List, refl, sym, subst}
use Rattle.x690.specs.Times.{SaysZoneOrNone}
use Rattle.x690.specs.Laws.Times.Ends.{generalized_end_behind}
use Rattle.x690.proofs.times.reading.generalized_end.Goals as goal

pub returns-in_err-millisecond-clause-none : goal.returns-in_err-millisecond-clause-none
returns-in_err-millisecond-clause-none c none m h says =
    let second = c.in_ok-second in
    let (fraction, zone, is, part, said) = generalized_end_behind c.args.text.now second.rest.now second.second m
    second.ensures.some.0 second.ensures.some.1 h says in
    c.in_err-millisecond.ensures.only fraction zone m.millisecond m.zone part said is

pub returns-in_err-zone-clause-none : goal.returns-in_err-zone-clause-none
returns-in_err-zone-clause-none c none m h says =
    let second = c.in_ok-second in
    let (fraction, zone, is, part, said) = generalized_end_behind c.args.text.now second.rest.now second.second m
    second.ensures.some.0 second.ensures.some.1 h says in
    let rest = (c.in_ok-millisecond.ensures.only fraction zone m.millisecond m.zone part said is).1 in
    c.in_err-zone.ensures.none refl m.zone (subst (λ (ys : List ℕ). SaysZoneOrNone ys m.zone) (sym rest) said)
