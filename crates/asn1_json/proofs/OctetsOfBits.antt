-- Bits in octets.
use Rattle.std.proofs.Common.{◌≡◌, ◌∙◌, ap, sym, refl, ℕ, zero, suc, ◌+◌, ◌*◌, ◌/◌, ◌^◌, ◌<◌, ◌≤◌, Bool, true, false, List, [], ◌∷◌, ◌++◌, length, length-drop, drop, take, get_or, append_assoc, arith}
use Rattle.std.proofs.Math.Nat.{pow-succ'}
use Rattle.std.proofs.Math.Pow.{pow_mono}
use Rattle.std.proofs.Math.Seq.{take-append-add}
use Rattle.x690.specs.Identifiers.{bit}
use Rattle.asn1_json.specs.Leaves.{number_of_bits, octets_from, octets_of_bits}

-- one bit more, at the low end
pub bit_more : (k : ℕ) (bs : List Bool) → number_of_bits (suc k) bs ≡ number_of_bits k bs * 2 + bit (get_or bs k false)
bit_more zero [] = refl
bit_more zero (true ∷ bs) = refl
bit_more zero (false ∷ bs) = refl
bit_more (suc k) [] = refl
bit_more (suc k) (true ∷ bs) =
    let more = bit_more k bs in
    let twice = pow-succ' 2 k in
    omega (arith, more, twice)
bit_more (suc k) (false ∷ bs) = let more = bit_more k bs in omega (arith, more)

-- so at the place of a loop
pub next_bit : (k : ℕ) (bs : List Bool) → number_of_bits (k + 1) bs ≡ number_of_bits k bs * 2 + bit (get_or bs k false)
next_bit k bs = let e : k + 1 ≡ suc k = omega arith in ap (λ (n : ℕ). number_of_bits n bs) e ∙ bit_more k bs

pub bit_few : (b : Bool) → bit b ≤ 1
bit_few true = omega arith
bit_few false = omega arith

bits_below : (k : ℕ) (bs : List Bool) → number_of_bits k bs < 2 ^ k
bits_below zero bs = omega arith
bits_below (suc k) [] = let below = bits_below k [] in let twice = pow-succ' 2 k in grind arith
bits_below (suc k) (true ∷ bs) = let below = bits_below k bs in let twice = pow-succ' 2 k in omega (arith, below, twice)
bits_below (suc k) (false ∷ bs) = let below = bits_below k bs in let twice = pow-succ' 2 k in omega (arith, below, twice)

-- seven bits at most say less than 128
pub few_bits : (k : ℕ) (bs : List Bool) → k < 8 → number_of_bits k bs < 128
few_bits k bs few =
    let most : 2 ^ k ≤ 2 ^ 7 = pow_mono {i = k} {j = 7} (omega arith) in
    let below = bits_below k bs in
    omega (arith, most, below)

-- the octet of the first bits, and those of the others
octet_more : (bs : List Bool) → 0 < length bs → octets_of_bits bs ≡ number_of_bits 8 bs ∷ octets_of_bits (drop 8 bs)
octet_more bs some =
    let count : (length bs + 7) / 8 ≡ suc ((length (drop 8 bs) + 7) / 8) = omega (arith, length-drop 8 bs) in
    ap (λ (n : ℕ). octets_from n bs) count

pub octets_step : (items pushed whole : List ℕ) (rest others : List Bool) (octet : ℕ) → 0 < length rest →
    octet ≡ number_of_bits 8 rest → pushed ≡ items ++ octet ∷ [] → others ≡ drop 8 rest →
    items ++ octets_of_bits rest ≡ whole → pushed ++ octets_of_bits others ≡ whole
octets_step items pushed whole rest others octet some is put truncated e =
    ap (λ (os : List ℕ). os ++ octets_of_bits others) put
    ∙ append_assoc items (octet ∷ []) (octets_of_bits others)
    ∙ ap (λ (o : ℕ). items ++ o ∷ octets_of_bits others) is
    ∙ ap (λ (bs : List Bool). items ++ number_of_bits 8 rest ∷ octets_of_bits bs) truncated
    ∙ ap (λ (os : List ℕ). items ++ os) (sym (octet_more rest some)) ∙ e

-- what is behind the bits that were there
pub used_bits : (old new all : List Bool) (n : ℕ) → all ≡ old ++ new → take (length old + n) all ≡ old ++ take n new
used_bits old new all n is = ap (λ (bs : List Bool). take (length old + n) bs) is ∙ take-append-add old new n
