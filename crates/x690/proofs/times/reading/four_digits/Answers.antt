use Rattle.std.proofs.Common.{◌≡◌, ℕ, ◌+◌, ◌/◌, ◌%◌, List, ◌∷◌, ◌++◌, refl, sym, ap, ◌∙◌, arith}
use Rattle.x690.specs.Times.{digits}
use Rattle.x690.specs.Laws.Times.Digits.{digits_part, digits_split}
use Rattle.x690.proofs.times.reading.four_digits.Goals as goal

pub returns-in_err-last_two-clause-none : goal.returns-in_err-last_two-clause-none
returns-in_err-last_two-clause-none c none n rest h e =
    let first_two = c.in_ok-first_two in
    let whole = sym first_two.ensures.some.1 ∙ e ∙ ap (λ (ys : List ℕ). ys ++ rest) (digits_split 2 2 n) in
    let behind = (digits_part 2 first_two.first_two (n / 100) first_two.rest.now (digits 2 n ++ rest) whole).1 in
    let tens : n / 10 % 10 ≡ n % 100 / 10 % 10 = omega arith in
    let units : n % 10 ≡ n % 100 % 10 = omega arith in
    c.in_err-last_two.ensures.none refl (n % 100) rest (omega arith)
    (behind ∙ ap (λ (k : ℕ). (48 + k) ∷ (48 + n % 10) ∷ rest) tens
    ∙ ap (λ (k : ℕ). (48 + n % 100 / 10 % 10) ∷ (48 + k) ∷ rest) units)
