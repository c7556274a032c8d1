use Rattle.std.proofs.Common.{◌≡◌, ap, sym, ◌∙◌, refl, ℕ, List, ◌++◌, arith, None}
use Rattle.x690.specs.Times.{to_minute, digits, IsStrictMoment}
use Rattle.x690.specs.Laws.Times.Ends.{minutes_front}
use Rattle.x690.specs.declared.times.Moment.{Moment}
use Rattle.x690.specs.declared.times.TimeZone.TheVariants.{Z}
use Rattle.x690.proofs.times.strict_texts.behind_second.Goals as goal

pub returns-in_err-rest-clause-only : goal.returns-in_err-rest-clause-only
returns-in_err-rest-clause-only c m rest strict e =
    let start = c.in_ok-start in
    let behind = minutes_front start.start m start.rest.now (digits 2 m.second ++ rest) start.ensures.range strict.range
    (sym start.ensures.some ∙ e) in
    absurd (c.in_err-rest.ensures.none refl m.second rest strict.range.second behind.1)

pub returns-clause-some : goal.returns-clause-some
returns-clause-some c =
    let start = c.in_ok-start.start in
    let range = c.in_ok-start.ensures.range in
    let second = c.in_ok-rest.field-0-0 in
    let no_month = c.if-start-eq0.false in
    let no_day = c.if-start-eq0-2.false in
    let m : Moment = record {
      year = 0;
      month = start.month;
      day = start.day;
      hour = start.hour;
      minute = start.minute;
      second = second;
      millisecond = None;
      zone = Z;
    } in
    let strict : IsStrictMoment m = record {
      range = record {
        month = range.month;
        day = range.day;
        hour = range.hour;
        minute = range.minute;
        second = c.in_ok-rest.ensures.some.0;
      };
      month = λ (e : start.month ≡ 0). omega (arith, no_month, e);
      day = λ (e : start.day ≡ 0). omega (arith, no_day, e);
      zone = refl;
    } in (
      m,
      strict,
      c.in_ok-start.ensures.some ∙ ap (λ (o : List ℕ). to_minute start ++ o) c.in_ok-rest.ensures.some.1,
    )
