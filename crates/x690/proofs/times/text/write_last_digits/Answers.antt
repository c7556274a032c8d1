use Rattle.std.proofs.Common.{◌≡◌, ℕ, suc, ◌+◌, ◌-◌, ◌/◌, ◌%◌, ◌<◌, List, [], ◌∷◌, ◌++◌, length, drop, ap, sym, ◌∙◌}
use Rattle.std.proofs.Common.{append_assoc, arith}
use Rattle.std.proofs.Math.ListN.{set, length-set}
use Rattle.std.proofs.lemmas.List.{drop-set}
use Rattle.x690.specs.Times.{digits}
use Rattle.x690.proofs.times.text.write_last_digits.Goals as goal

more : (p q n : ℕ) → q ≡ suc p → digits q n ≡ digits p (n / 10) ++ (48 + n % 10) ∷ []
more p q n e = ap (λ k. digits k n) e

step : (p n : ℕ) (out : List ℕ) → p < length out →
    digits p (n / 10) ++ drop p (set out p (48 + n % 10)) ≡ digits (p + 1) n ++ drop (p + 1) out
step p n out h =
    ap (λ (ys : List ℕ). digits p (n / 10) ++ ys) (drop-set out p (48 + n % 10) h)
    ∙ sym (append_assoc (digits p (n / 10)) ((48 + n % 10) ∷ []) (drop (p + 1) out))
    ∙ ap (λ (ys : List ℕ). ys ++ drop (p + 1) out) (sym (more p (p + 1) n (omega arith)))

pub loop-place-preserved : goal.loop-place-preserved
loop-place-preserved c =
    let l = c.loop-place in
    let p = l.place - 1 in
    let e : p + 1 ≡ l.place = omega arith in record {
      within = omega (arith, length-set l.out p (48 + l.left % 10));
      written = step p l.left l.out (omega arith) ∙ ap (λ k. digits k l.left ++ drop k l.out) e ∙ l.invariant.written;
    }
