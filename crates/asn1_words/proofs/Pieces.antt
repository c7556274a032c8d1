-- Subidentifiers: their last octets, and how many there are.
use Rattle.std.proofs.Common.{◌≡◌, ℕ, ◌+◌, ◌^◌, ◌<◌, ◌≤◌, true, List, [], ◌∷◌, ◌++◌, length, map, get_or, nat_lt}
use Rattle.std.proofs.Common.{nat_le, ◌&&◌, refl, subst, arith}
use Rattle.std.proofs.Math.Nat.{pow-le-pow_right}
use Rattle.std.proofs.lemmas.Bool.{and_parts, leb-true}
use Rattle.std.proofs.lemmas.List.{get_or-map, length-map, take_all}
use Rattle.x690.specs.Digits.{base_128_value, low_seven_bits, weighted_sum}
use Rattle.asn1_words.specs.Numbers.{are_few, is_whole}
use Rattle.asn1_words.proofs.OwnDigits.{front_below}

-- the last octet tells
pub whole_by_last : (front : List ℕ) (last : ℕ) → is_whole (front ++ last ∷ []) ≡ nat_lt last 128
whole_by_last [] last = refl
whole_by_last (o ∷ []) last = refl
whole_by_last (o ∷ p ∷ ps) last = whole_by_last (p ∷ ps) last

-- nine octets say less than 2^63
piece_is_small : (piece : List ℕ) → length piece ≤ 9 → base_128_value piece < 128 ^ 9
piece_is_small piece short =
    let digits : List ℕ = map low_seven_bits piece in
    let len : length digits ≡ length piece = length-map piece low_seven_bits in
    let small : (k : ℕ) → k < length digits → get_or digits k 0 < 128 = λ k lt.
    omega (arith, get_or-map low_seven_bits piece k 0 0 (omega (arith, lt, len))) in
    let bound : weighted_sum 128 digits < 128 ^ length digits =
    subst (λ l. weighted_sum 128 l < 128 ^ length digits) (take_all (length digits) digits (omega arith))
    (front_below 128 digits small (length digits) (omega arith)) in
    let some : 0 < 128 = omega arith in
    let few : length digits ≤ 9 = omega (arith, len) in
    let most : 128 ^ length digits ≤ 128 ^ 9 = pow-le-pow_right some few in
    omega (arith, bound, most)

-- so a first piece of nine octets at most has a small number
pub first_is_small : (pieces : List (List ℕ)) → are_few 9 pieces ≡ true →
    get_or (map base_128_value pieces) 0 0 < 2 ^ 64 + 80
first_is_small [] h = omega arith
first_is_small (piece ∷ pieces) h =
    let parts = and_parts (nat_le (length piece) 9 && is_whole piece) (are_few 40 pieces) h in
    let short = leb-true (length piece) 9 (and_parts (nat_le (length piece) 9) (is_whole piece) parts.0).0 in
    omega (arith, piece_is_small piece short)
