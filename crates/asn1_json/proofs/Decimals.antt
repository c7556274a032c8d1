-- Numbers and arcs in decimals: numbers of JSON, and UTF-8.
use Rattle.std.proofs.Common.{◌≡◌, ◌∙◌, ap, refl, ℕ, zero, suc, ℤ, pos, negsuc, ◌+◌, ◌<◌, ◌≤◌, true, false, cond, ◌==◌, nat_lt, List, [], ◌∷◌, ◌++◌, length, drop, get_or, map, codes, Some, option_and_then, IsUtf8, arith}
use Rattle.std.specs.Int.Digits.{digits_of, AllBelowBase}
use Rattle.std.specs.List.{prefix_len}
use Rattle.std.specs.Char.{is_ascii_digit}
use Rattle.std.proofs.lemmas.Bool.{and_parts, and_from, le-leb, lt-ltb, ne_eqb}
use Rattle.std.proofs.lemmas.List.{drop_all}
use Rattle.std.proofs.lemmas.Int.Digits.{all_below_base_digits_of, first_digits_of}
use Rattle.json.specs.Word.{head, after_whole, after_fraction, after_exponent, after_number}
use Rattle.json.specs.Print.{IsNumber}
use Rattle.json.proofs.Printed.Utf8.{are_ascii, IsUtf8-are_ascii}
use Rattle.asn1_words.specs.Words.{number_text, integer_text}
use Rattle.asn1_words.specs.Numbers.{dotted_arcs, more_arcs_text}

abbrev shown : List ℕ → List ℕ
shown ds = map (λ d. 48 + d) ds

-- Numbers of JSON.

all_digits : (ds : List ℕ) → AllBelowBase 10 ds → prefix_len is_ascii_digit (shown ds) ≡ length (shown ds)
all_digits [] h = refl
all_digits (d ∷ ds) h =
    let rest = all_digits ds h.1 in
    let low : 48 ≤ 48 + d = omega arith in
    let high : 48 + d ≤ 57 = omega (arith, h.0) in
    ap (λ b. cond b (1 + prefix_len is_ascii_digit (shown ds)) 0) (and_from _ _ (le-leb 48 (48 + d) low) (le-leb (48 + d) 57 high))
    ∙ omega arith

whole_digits : (ds : List ℕ) → 48 < get_or ds 0 0 → prefix_len is_ascii_digit ds ≡ length ds →
    (after_whole ds ≡ Some []) × ((head ds == 45) ≡ false)
whole_digits [] first all = absurd (omega arith)
whole_digits (d ∷ ds) first all = (
  rw (ne_eqb d 48 (λ e. omega arith), all, ne_eqb (suc (length ds)) 0 (λ e. omega arith)) (ap Some (drop_all (length ds) ds (omega arith))),
  ne_eqb d 45 (λ e. omega arith),
)

first_shown : (ds : List ℕ) → 0 < get_or ds 0 0 → 48 < get_or (shown ds) 0 0
first_shown [] some = absurd (omega (arith, some))
first_shown (d ∷ ds) some = omega (arith, some)

whole_number : (n : ℕ) → (after_whole (number_text (suc n)) ≡ Some []) × ((head (number_text (suc n)) == 45) ≡ false)
whole_number n =
    let ds = digits_of 10 (suc n) in
    whole_digits (shown ds) (first_shown ds (first_digits_of 10 (suc n) (omega arith) (omega arith)))
    (all_digits ds (all_below_base_digits_of 10 (suc n) (omega arith)))

pub number_is_number : (n : ℕ) → IsNumber (number_text n)
unfolding after_number
number_is_number zero = refl
number_is_number (suc n) =
    let w = whole_number n in
    let t = number_text (suc n) in
    ap (λ o. option_and_then after_exponent (option_and_then after_fraction o))
    (ap (λ b. after_whole (cond b (drop 1 t) t)) w.1 ∙ w.0)

pub integer_is_number : (z : ℤ) → IsNumber (integer_text z)
unfolding after_number
integer_is_number (pos n) = number_is_number n
integer_is_number (negsuc n) =
    ap (λ o. option_and_then after_exponent (option_and_then after_fraction o)) (whole_number n).0

-- ASCII, and so UTF-8.

both : (xs ys : List ℕ) → are_ascii xs ≡ true → are_ascii ys ≡ true → are_ascii (xs ++ ys) ≡ true
both [] ys h k = k
both (x ∷ xs) ys h k = let p = and_parts (nat_lt x 128) (are_ascii xs) h in rw p.0 (both xs ys p.1 k)

digits_are_ascii : (ds : List ℕ) → AllBelowBase 10 ds → are_ascii (shown ds) ≡ true
digits_are_ascii [] h = refl
digits_are_ascii (d ∷ ds) h =
    let e : nat_lt (48 + d) 128 ≡ true = lt-ltb (48 + d) 128 (omega (arith, h.0)) in
    rw e (digits_are_ascii ds h.1)

number_is_ascii : (n : ℕ) → are_ascii (number_text n) ≡ true
number_is_ascii zero = refl
number_is_ascii (suc n) = digits_are_ascii (digits_of 10 (suc n)) (all_below_base_digits_of 10 (suc n) (omega arith))

integer_is_ascii : (z : ℤ) → are_ascii (integer_text z) ≡ true
integer_is_ascii (pos n) = number_is_ascii n
integer_is_ascii (negsuc n) = both (codes "-") (number_text (suc n)) refl (number_is_ascii (suc n))

more_arcs_are_ascii : (arcs : List ℕ) → are_ascii (more_arcs_text arcs) ≡ true
more_arcs_are_ascii [] = refl
more_arcs_are_ascii (arc ∷ arcs) = both (codes "." ++ number_text arc) (more_arcs_text arcs)
    (both (codes ".") (number_text arc) refl (number_is_ascii arc)) (more_arcs_are_ascii arcs)

arcs_are_ascii : (arcs : List ℕ) → are_ascii (dotted_arcs arcs) ≡ true
arcs_are_ascii [] = refl
arcs_are_ascii (arc ∷ arcs) = both (number_text arc) (more_arcs_text arcs) (number_is_ascii arc) (more_arcs_are_ascii arcs)

pub number_is_utf8 : (n : ℕ) → IsUtf8 (number_text n)
number_is_utf8 n = IsUtf8-are_ascii (number_text n) (number_is_ascii n)

pub integer_is_utf8 : (z : ℤ) → IsUtf8 (integer_text z)
integer_is_utf8 z = IsUtf8-are_ascii (integer_text z) (integer_is_ascii z)

pub arcs_are_utf8 : (arcs : List ℕ) → IsUtf8 (dotted_arcs arcs)
arcs_are_utf8 arcs = IsUtf8-are_ascii (dotted_arcs arcs) (arcs_are_ascii arcs)
