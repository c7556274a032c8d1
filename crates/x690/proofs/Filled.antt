-- What `{:02}` and its kin write.
use Rattle.std.proofs.Common.{◌≡◌, ℕ, zero, suc, ◌+◌, ◌-◌, ◌/◌, ◌%◌, ◌^◌, ◌<◌, List, [], ◌∷◌, ◌++◌, inl, inr, length}
use Rattle.std.proofs.Common.{replicate, decimal, false, refl, ap, sym, ◌∙◌, append_assoc, append-nil, length-append}
use Rattle.std.proofs.Common.{arith, ◌≤◌, max, IsAscii}
use Rattle.std.proofs.Math.Nat.{pow-le-pow_right, pow-zero}
use Rattle.std.specs.Int.Digits.{digits_of, number_from_digits}
use Rattle.std.proofs.lemmas.Fmt.{decimal-digits_of, decimal_nonempty}
use Rattle.std.proofs.lemmas.Int.Digits.{number_digits_of, number_lt, all_below_base_digits_of, length-digits_of-le}
use Rattle.std.proofs.lemmas.List.{length-map}
use Rattle.std.proofs.lemmas.Str.Ascii.{IsAscii-nil, IsAscii-push}
use Rattle.std.specs.Fmt.{padded_integral, format_spec, char_count}
use Rattle.std.proofs.lemmas.Bool.{cases_lt}
use Rattle.std.proofs.lemmas.Fmt.{decimal_digit, decimal_step}
use Rattle.x690.specs.Times.{filled, digits}

pub zeros : (w n : ℕ) → padded_integral (format_spec 32 0 4 w (2 ^ 64 - 1)) false [] (decimal n) ≡ filled w n
unfolding padded_integral char_count
zeros w n =
    let short : w - length (decimal n) - 0 - 0 ≡ w - length (decimal n) = omega arith in
    rw (short, append-nil (decimal n))

-- zeros are the digits of 0
zero_digits : (width : ℕ) → digits width 0 ++ 48 ∷ [] ≡ 48 ∷ digits width 0
zero_digits zero = refl
zero_digits (suc width) = ap (λ (xs : List ℕ). xs ++ 48 ∷ []) (zero_digits width)

digits_zero : (width : ℕ) → digits width 0 ≡ replicate width 48
digits_zero zero = refl
digits_zero (suc width) = zero_digits width ∙ ap (λ (xs : List ℕ). 48 ∷ xs) (digits_zero width)

filled_digit : (width n : ℕ) → n < 10 → filled (suc width) n ≡ digits (suc width) n
filled_digit width n h =
    let tens : n / 10 ≡ 0 = omega arith in
    let ones : n % 10 ≡ n = omega arith in
    let room : suc width - 1 ≡ width = omega arith in
    rw (decimal_digit n h, room, tens, ones, digits_zero width)

-- a number that is short enough is its digits
pub filled_digits : (width n : ℕ) → n < 10 ^ suc width → n < 2 ^ 64 → filled (suc width) n ≡ digits (suc width) n
filled_digits zero n h fits = filled_digit 0 n h
filled_digits (suc width) n h fits =
    elim (cases_lt n 10) as (λ _. filled (suc (suc width)) n ≡ digits (suc (suc width)) n) [
      | inl one ↦ filled_digit (suc width) n one
      | inr more ↦
          let last = (48 + n % 10) ∷ [] in
          let whole = decimal_step n more fits in
          let room : suc (suc width) - length (decimal n) ≡ suc width - length (decimal (n / 10)) =
          omega (arith, ap length whole, length-append (decimal (n / 10)) last) in
          ap (λ k. replicate k 48 ++ decimal n) room
          ∙ ap (λ (xs : List ℕ). replicate (suc width - length (decimal (n / 10))) 48 ++ xs) whole
          ∙ sym (append_assoc (replicate (suc width - length (decimal (n / 10))) 48) (decimal (n / 10)) last)
          ∙ ap (λ (xs : List ℕ). xs ++ last) (filled_digits width (n / 10) (omega (arith, h)) (omega arith))
    ]

-- a number has fewer values than there are places for its digits
below_places : (n k : ℕ) → length (digits_of 10 n) ≤ k → n < 10 ^ k
below_places n k h =
    let ds = digits_of 10 n in
    let value : number_from_digits 10 ds ≡ n = number_digits_of 10 n (omega arith) in
    let below : number_from_digits 10 ds < 10 ^ length ds = number_lt 10 ds (all_below_base_digits_of 10 n (omega arith))
    in
    let more : 10 ^ length ds ≤ 10 ^ k = pow-le-pow_right (omega arith) h in
    omega arith

-- a width that the digits fill changes nothing
as_wide : (width k n : ℕ) → 1 ≤ width → width ≤ k → k ≡ length (digits_of 10 n) → n < 2 ^ 64 →
    filled width n ≡ filled k n
as_wide width k n some h e fits =
    let positive : 0 < n = elim (cases_lt 0 n) as (λ _. 0 < n) [
      | inl p ↦ p
      | inr z ↦ absurd (omega (arith, length-digits_of-le 10 0 n (omega arith) (rw (pow-zero 10) (omega arith))))
    ] in
    let l : length (decimal n) ≡ k =
    ap length (decimal-digits_of n positive fits) ∙ length-map (digits_of 10 n) (λ d. 48 + d) ∙ sym e in
    let a : width - length (decimal n) ≡ 0 = omega arith in
    let b : k - length (decimal n) ≡ 0 = omega arith in
    ap (λ j. replicate j 48 ++ decimal n) (a ∙ sym b)

-- in as many places as the digits have, or the width where that is more
pub filled_places : (width k n : ℕ) → 1 ≤ width → k ≡ max (length (digits_of 10 n)) width → n < 2 ^ 64 →
    filled width n ≡ digits k n
filled_places width zero n some e fits = absurd (omega arith)
filled_places width (suc k) n some e fits =
    let count = length (digits_of 10 n) in
    let exact = filled_digits k n (below_places n (suc k) (omega arith)) fits in
    elim (cases_lt width count) as (λ _. filled width n ≡ digits (suc k) n) [
      | inl more ↦
          let few : width ≤ suc k = omega arith in
          let all : suc k ≡ count = omega arith in
          as_wide width (suc k) n some few all fits ∙ exact
      | inr less ↦
          let wide : width ≡ suc k = omega arith in
          ap (λ w. filled w n) wide ∙ exact
    ]

-- a number is as long as it is filled to one place
pub filled_one : (n : ℕ) → n < 2 ^ 64 → filled 1 n ≡ decimal n
filled_one n fits =
    let some = decimal_nonempty n fits in
    let none : 1 - length (decimal n) ≡ 0 = omega arith in
    ap (λ j. replicate j 48 ++ decimal n) none

pub digits_length : (width n : ℕ) → length (digits width n) ≡ width
digits_length zero n = refl
digits_length (suc width) n =
    omega (
      arith,
      digits_length width (n / 10),
      length-append (digits width (n / 10)) ((48 + n % 10) ∷ []),
    )

pub digits_ascii : (width n : ℕ) → IsAscii (digits width n)
digits_ascii zero n = IsAscii-nil
digits_ascii (suc width) n = IsAscii-push (digits width (n / 10)) (48 + n % 10) (digits_ascii width (n / 10)) (omega arith)
