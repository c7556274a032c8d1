-- Sums of digits that are below the base.
use Rattle.std.proofs.Common.{◌≡◌, ℕ, ◌+◌, ◌*◌, ◌/◌, ◌%◌, ◌^◌, ◌<◌, ◌≤◌, List, [], ◌∷◌, length, refl, sym, ap, ◌∙◌}
use Rattle.std.proofs.Common.{arith, subst}
use Rattle.std.specs.Int.Digits.{digits_of, AllBelowBase}
use Rattle.std.proofs.lemmas.Int.Digits.{number_lt, number_digits_of}
use Rattle.std.proofs.lemmas.Nat.{div-mul-add, mod-mul-add}
use Rattle.x690.specs.Digits.{weighted_sum}
use Rattle.x690.specs.Laws.Digits.{weighted_sum_is_number}

-- the sum is below the power of the base that has as many digits
pub weighted_sum_lt : (b : ℕ) (ds : List ℕ) → AllBelowBase b ds → weighted_sum b ds < b ^ length ds
weighted_sum_lt b ds h = subst (λ (n : ℕ). n < b ^ length ds) (weighted_sum_is_number b ds) (number_lt b ds h)

-- the digits of a number are its sum
pub weighted_sum_digits : (b n : ℕ) → 2 ≤ b → weighted_sum b (digits_of b n) ≡ n
weighted_sum_digits b n h = sym (weighted_sum_is_number b (digits_of b n)) ∙ number_digits_of b n h

-- as many digits of one number are the same digits
pub same_digits : (b : ℕ) (ds es : List ℕ) → AllBelowBase b ds → AllBelowBase b es → length ds ≡ length es →
    weighted_sum b ds ≡ weighted_sum b es → ds ≡ es
same_digits b [] [] h k l e = refl
same_digits b [] (x ∷ es) h k l e = absurd (omega arith)
same_digits b (d ∷ ds) [] h k l e = absurd (omega arith)
same_digits b (d ∷ ds) (x ∷ es) h k l e =
    let m : length ds ≡ length es = omega arith in
    let p : b ^ length es ≡ b ^ length ds = ap (λ n. b ^ n) (sym m) in
    let w = weighted_sum_lt b ds h.1 in
    let v : weighted_sum b es < b ^ length ds = subst (λ (n : ℕ). weighted_sum b es < n) p (weighted_sum_lt b es k.1) in
    let f : d * b ^ length ds + weighted_sum b ds ≡ x * b ^ length ds + weighted_sum b es =
    e ∙ ap (λ n. x * n + weighted_sum b es) p in
    let q : d ≡ x = sym (div-mul-add d (b ^ length ds) (weighted_sum b ds) w) ∙ ap (λ n. n / b ^ length ds) f
    ∙ div-mul-add x (b ^ length ds) (weighted_sum b es) v in
    let r : weighted_sum b ds ≡ weighted_sum b es = sym (mod-mul-add d (b ^ length ds) (weighted_sum b ds) w)
    ∙ ap (λ n. n % b ^ length ds) f ∙ mod-mul-add x (b ^ length ds) (weighted_sum b es) v in
    let t = same_digits b ds es h.1 k.1 m r in
    cc
