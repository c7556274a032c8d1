use Rattle.std.proofs.Common.{◌≡◌, ◌≢◌, ℕ, ◌/◌, ◌<◌, List, [], ◌∷◌, ◌++◌, Option, Some, None, unwrap_or, decimal, ap}
use Rattle.std.proofs.Common.{sym, ◌∙◌, arith, append_assoc}
use Rattle.x690.specs.Times.{fraction_text, filled}
use Rattle.x690.specs.Laws.TimeTexts.{one_digit, two_digits, three_digits}
use Rattle.x690.proofs.Filled.{filled_one, filled_digits}
use Rattle.x690.proofs.times.text.ShownText.push_fraction.Goals as goal

-- none are shown as 0 milliseconds
as_number : (o : Option ℕ) (m : ℕ) → m ≡ unwrap_or o 0 → fraction_text o ≡ fraction_text (Some m)
as_number None m e = ap (λ n. fraction_text (Some n)) (sym e)
as_number (Some n) m e = ap (λ n. fraction_text (Some n)) (sym e)

-- a point and then a number behind a text
pointed : (old point new number text : List ℕ) → point ≡ old ++ 46 ∷ [] → new ≡ point ++ number →
    text ≡ 46 ∷ number → new ≡ old ++ text
pointed old point new number text e f t =
    f ∙ ap (λ (xs : List ℕ). xs ++ number) e ∙ append_assoc old (46 ∷ []) number
    ∙ ap (λ (xs : List ℕ). old ++ xs) (sym t)

-- more than three digits
long : (n : ℕ) → n ≢ 0 → 999 < n → fraction_text (Some n) ≡ 46 ∷ decimal n
long n some more = grind arith

pub returns-then-m-gt999-clause-text : goal.returns-then-m-gt999-clause-text
returns-then-m-gt999-clause-text c =
    let m = c.from-m.result in
    let text = as_number c.args.millisecond m (c.from-m.ensures ∙ c.unwrap_or-m.ensures)
    ∙ long m (rw (← c.from-m.ensures) at c.if-m-eq0.false) c.if-m-gt999.true
    ∙ ap (λ (xs : List ℕ). 46 ∷ xs) (sym (filled_one m (omega arith))) in
    pointed c.args.self.now c.push.new.self c.push_filled.new.self (filled 1 m) (fraction_text c.args.millisecond)
    c.push.ensures c.push_filled.ensures.text text

pub returns-then-m-eq0-2-clause-text : goal.returns-then-m-eq0-2-clause-text
returns-then-m-eq0-2-clause-text c =
    let m = c.from-m.result in
    let text = as_number c.args.millisecond m (c.from-m.ensures ∙ c.unwrap_or-m.ensures)
    ∙ one_digit m (rw (← c.from-m.ensures) at c.if-m-eq0.false) c.if-m-gt999.false c.if-m-eq0-2.true
    ∙ ap (λ (xs : List ℕ). 46 ∷ xs) (sym (filled_digits 0 (m / 100) (omega arith) (omega arith))) in
    pointed c.args.self.now c.push.new.self c.push_filled-then-m-eq0-2.new.self (filled 1 (m / 100))
    (fraction_text c.args.millisecond) c.push.ensures c.push_filled-then-m-eq0-2.ensures.text text

pub returns-then-m-eq0-3-clause-text : goal.returns-then-m-eq0-3-clause-text
returns-then-m-eq0-3-clause-text c =
    let m = c.from-m.result in
    let text = as_number c.args.millisecond m (c.from-m.ensures ∙ c.unwrap_or-m.ensures)
    ∙ two_digits m (rw (← c.from-m.ensures) at c.if-m-eq0.false) c.if-m-gt999.false c.if-m-eq0-2.false
    c.if-m-eq0-3.true
    ∙ ap (λ (xs : List ℕ). 46 ∷ xs) (sym (filled_digits 1 (m / 10) (omega arith) (omega arith))) in
    pointed c.args.self.now c.push.new.self c.push_filled-then-m-eq0-3.new.self (filled 2 (m / 10))
    (fraction_text c.args.millisecond) c.push.ensures c.push_filled-then-m-eq0-3.ensures.text text

pub returns-else-m-eq0-3-clause-text : goal.returns-else-m-eq0-3-clause-text
returns-else-m-eq0-3-clause-text c =
    let m = c.from-m.result in
    let text = as_number c.args.millisecond m (c.from-m.ensures ∙ c.unwrap_or-m.ensures)
    ∙ three_digits m (rw (← c.from-m.ensures) at c.if-m-eq0.false) c.if-m-gt999.false c.if-m-eq0-2.false
    c.if-m-eq0-3.false
    ∙ ap (λ (xs : List ℕ). 46 ∷ xs) (sym (filled_digits 2 m (omega arith) (omega arith))) in
    pointed c.args.self.now c.push.new.self c.push_filled-else-m-eq0-3.new.self (filled 3 m)
    (fraction_text c.args.millisecond) c.push.ensures c.push_filled-else-m-eq0-3.ensures.text text
