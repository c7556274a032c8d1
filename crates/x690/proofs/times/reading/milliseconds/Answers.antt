use Rattle.std.proofs.Common.{◌+◌, ◌*◌, refl, sym, ◌∙◌, arith}
use Rattle.x690.specs.Laws.Times.Digits.{more_digits, digit_more}
use Rattle.x690.specs.Laws.Times.Zones.{fraction_digits_front}
use Rattle.x690.proofs.times.reading.milliseconds.Goals as goal

pub returns-in_err-hundreds-clause-only : goal.returns-in_err-hundreds-clause-only
returns-in_err-hundreds-clause-only c count n zone said few h zones e =
    absurd (more_digits 0 (1 + count) 0 n c.args.text.now zone (omega arith) (c.in_err-hundreds.ensures.none refl) e)

pub returns-in_default-clause-only : goal.returns-in_default-clause-only
returns-in_default-clause-only c count n zone said few h zones e =
    let first = c.in_ok-hundreds in
    let r = fraction_digits_front 0 first.hundreds count n first.rest.now zone said first.ensures.some.0 few h
    (λ _. c.in_default.ensures.none refl) zones (sym first.ensures.some.1 ∙ e) in
    (omega (arith, r.0), r.1)

pub returns-in_default-digit-clause-some : goal.returns-in_default-digit-clause-some
returns-in_default-digit-clause-some c =
    let first = c.in_ok-hundreds in
    let second = c.in-Some in (
      1,
      10 * first.hundreds + second.tens,
      omega arith,
      omega (arith, first.ensures.some.0, second.ensures.some.0),
      digit_more 1 first.hundreds second.tens c.args.text.now first.rest.now second.after_tens.now second.ensures.some.0
          first.ensures.some.1 second.ensures.some.1,
      omega arith,
    )

pub returns-in_default-digit-clause-only : goal.returns-in_default-digit-clause-only
unfolding returns-in_default-digit-clause-some
returns-in_default-digit-clause-only c count n zone said few h zones e =
    let some = returns-in_default-digit-clause-some c in
    let r = fraction_digits_front 1 some.1 count n c.in-Some.after_tens.now zone said some.3 few h
    (λ _. c.in_default-digit.ensures.none refl) zones (sym some.4 ∙ e) in
    (some.5 ∙ r.0, r.1)

pub returns-clause-some : goal.returns-clause-some
returns-clause-some c =
    let first = c.in_ok-hundreds in
    let second = c.in-Some in
    let third = c.in-Some-digit in
    let two = digit_more 1 first.hundreds second.tens c.args.text.now first.rest.now second.after_tens.now
    second.ensures.some.0 first.ensures.some.1 second.ensures.some.1 in (
      2,
      10 * (10 * first.hundreds + second.tens) + third.units,
      omega arith,
      omega (arith, first.ensures.some.0, second.ensures.some.0, third.ensures.some.0),
      digit_more 2 (10 * first.hundreds + second.tens) third.units c.args.text.now second.after_tens.now
          third.after_units.now third.ensures.some.0 two third.ensures.some.1,
      omega arith,
    )

pub returns-clause-only : goal.returns-clause-only
unfolding returns-clause-some
returns-clause-only c count n zone said few h zones e =
    let some = returns-clause-some c in
    let r = fraction_digits_front 2 some.1 count n c.in-Some-digit.after_units.now zone said some.3 few h
    (λ l. absurd (omega (arith, l))) zones (sym some.4 ∙ e) in
    (some.5 ∙ r.0, r.1)
