-- The first of the bits that are left.
use Rattle.std.proofs.Common.{◌≡◌, ◌≢◌, ◌∙◌, ap, sym, refl, ℕ, zero, suc, ◌+◌, ◌-◌, ◌≤◌, take, drop, List, ◌∷◌, ◌++◌, arith}
use Rattle.std.specs.Prelude.{Bool}
use Rattle.asn1_schema.specs.Grammar.{digits_2, bits_in}
use Rattle.asn1_schema.specs.Bits.{bit_at}

one_bit : (octet skip : ℕ) (rest : List Bool) → skip ≤ 7 →
    drop skip (digits_2 8 octet ++ rest) ≡ bit_at (7 - skip) octet ∷ drop (suc skip) (digits_2 8 octet ++ rest)
one_bit octet zero rest h = refl
one_bit octet (suc zero) rest h = refl
one_bit octet (suc (suc zero)) rest h = refl
one_bit octet (suc (suc (suc zero))) rest h = refl
one_bit octet (suc (suc (suc (suc zero)))) rest h = refl
one_bit octet (suc (suc (suc (suc (suc zero))))) rest h = refl
one_bit octet (suc (suc (suc (suc (suc (suc zero)))))) rest h = refl
one_bit octet (suc (suc (suc (suc (suc (suc (suc zero))))))) rest h = refl
one_bit octet (suc (suc (suc (suc (suc (suc (suc (suc n)))))))) rest h = absurd (omega (arith, h))

taken : (count : ℕ) (b : Bool) (bs : List Bool) → count ≢ 0 → take count (b ∷ bs) ≡ b ∷ take (count - 1) bs
taken zero b bs some = absurd (some refl)
taken (suc n) b bs some =
    let e : n ≡ suc n - 1 = omega arith in
    ap (λ (z : ℕ). b ∷ take z bs) e

pub bit_taken : (octets behind : List ℕ) (octet skip count : ℕ) (b : Bool) (others : List Bool) → skip ≤ 7 → count ≢ 0 →
    octets ≡ octet ∷ behind → b ≡ bit_at (7 - skip) octet →
    take count (drop skip (bits_in octets)) ++ others ≡ b ∷ (take (count - 1) (drop (skip + 1) (bits_in octets)) ++ others)
bit_taken octets behind octet skip count b others few some is bit =
    let one : suc skip ≡ skip + 1 = omega arith in
    let all = ap bits_in is in
    let first = ap (λ (z : List Bool). drop skip z) all ∙ (one_bit octet skip (bits_in behind) few
    ∙ ap (λ (i : ℕ). bit_at (7 - skip) octet ∷ drop i (digits_2 8 octet ++ bits_in behind)) one) in
    ap (λ (z : List Bool). take count z ++ others) first
    ∙ (ap (λ (z : List Bool). z ++ others) (taken count (bit_at (7 - skip) octet)
    (drop (skip + 1) (digits_2 8 octet ++ bits_in behind)) some)
    ∙ (ap (λ (z : Bool). z ∷ (take (count - 1) (drop (skip + 1) (digits_2 8 octet ++ bits_in behind)) ++ others)) (sym bit)
    ∙ ap (λ (z : List Bool). b ∷ (take (count - 1) (drop (skip + 1) z) ++ others)) (sym all)))
