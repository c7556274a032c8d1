-- The digits of numbers that are put in front of others.
use Rattle.std.proofs.Common.{◌≡◌, ◌∙◌, ap, sym, subst, refl, ℕ, zero, suc, ◌+◌, ◌-◌, ◌*◌, ◌^◌, ◌/◌, ◌%◌, ◌<◌, ◌≤◌, Bool, false, List, [], ◌∷◌, ◌++◌, length, arith, append_assoc, append-nil, take, drop}
use Rattle.std.specs.Prelude.{nat_eq, replicate}
use Rattle.std.proofs.Math.Nat.{mul_assoc, pow-suc, div-add-mod, mul_comm}
use Rattle.std.proofs.lemmas.List.{length-append, take-append-le, take-append-drop, length-take-le}
use Rattle.std.proofs.Math.Seq.{take-append_seam, take-append-add}
use Rattle.asn1_schema.specs.Grammar.{digits_2, bits_in}
use Rattle.asn1_schema.specs.Bits.{used_bits, first_bits}
use Rattle.asn1_schema.proofs.BitContents.{digits_length, bits_length}
use Rattle.asn1_schema.proofs.UnusedBits.{bits_append}

-- a number in front of another one, which has so many digits
pub digits_joined : (w f p x : ℕ) → p < 2 ^ f → digits_2 (w + f) (p + x * 2 ^ f) ≡ digits_2 w x ++ digits_2 f p
digits_joined w zero p x l =
    let width : w + 0 ≡ w = omega arith in
    let none : p ≡ 0 = omega (arith, l) in
    let number : p + x * 1 ≡ x = omega (arith, none) in
    ap (λ (z : ℕ). digits_2 z (p + x * 2 ^ 0)) width ∙ (ap (digits_2 w) number ∙ sym (append-nil (digits_2 w x)))
digits_joined w (suc f) p x l =
    let pow = pow-suc 2 f in
    let twice : x * 2 ^ suc f ≡ (x * 2 ^ f) * 2 = ap (λ (z : ℕ). x * z) pow ∙ sym (mul_assoc x (2 ^ f) 2) in
    let width : w + suc f ≡ suc (w + f) = omega arith in
    let half : (p + x * 2 ^ suc f) / 2 ≡ p / 2 + x * 2 ^ f = omega (arith, twice) in
    let odd : (p + x * 2 ^ suc f) % 2 ≡ p % 2 = omega (arith, twice) in
    let low : p / 2 < 2 ^ f = omega (arith, l, pow) in
    ap (λ (z : ℕ). digits_2 z (p + x * 2 ^ suc f)) width
    ∙ (ap (λ (z : ℕ). digits_2 (w + f) z ++ nat_eq ((p + x * 2 ^ suc f) % 2) 1 ∷ []) half
    ∙ (ap (λ (z : ℕ). digits_2 (w + f) (p / 2 + x * 2 ^ f) ++ nat_eq z 1 ∷ []) odd
    ∙ (ap (λ (z : List Bool). z ++ nat_eq (p % 2) 1 ∷ []) (digits_joined w f (p / 2) x low)
    ∙ append_assoc (digits_2 w x) (digits_2 f (p / 2)) (nat_eq (p % 2) 1 ∷ []))))

-- and its size
pub less_joined : (w f p x : ℕ) → p < 2 ^ f → x < 2 ^ w → p + x * 2 ^ f < 2 ^ (w + f)
less_joined w zero p x l m =
    let width : w ≡ w + 0 = omega arith in
    let number : p + x * 1 < 2 ^ w = omega (arith, l, m) in
    subst (λ (z : ℕ). p + x * 1 < 2 ^ z) width number
less_joined w (suc f) p x l m =
    let pow = pow-suc 2 f in
    let twice : x * 2 ^ suc f ≡ (x * 2 ^ f) * 2 = ap (λ (z : ℕ). x * z) pow ∙ sym (mul_assoc x (2 ^ f) 2) in
    let low : p / 2 < 2 ^ f = omega (arith, l, pow) in
    let i = less_joined w f (p / 2) x low m in
    let width : suc (w + f) ≡ w + suc f = omega arith in
    let more = pow-suc 2 (w + f) in
    subst (λ (z : ℕ). p + x * 2 ^ suc f < 2 ^ z) width (omega (arith, i, twice, more))

-- the front of an octet is a number of so many digits
pub front_small : (skip octet : ℕ) → skip ≤ 7 → octet < 256 → octet / 2 ^ skip < 2 ^ (8 - skip)
front_small zero octet l o = omega (arith, o)
front_small (suc zero) octet l o = omega (arith, o)
front_small (suc (suc zero)) octet l o = omega (arith, o)
front_small (suc (suc (suc zero))) octet l o = omega (arith, o)
front_small (suc (suc (suc (suc zero)))) octet l o = omega (arith, o)
front_small (suc (suc (suc (suc (suc zero))))) octet l o = omega (arith, o)
front_small (suc (suc (suc (suc (suc (suc zero)))))) octet l o = omega (arith, o)
front_small (suc (suc (suc (suc (suc (suc (suc zero))))))) octet l o = omega (arith, o)
front_small (suc (suc (suc (suc (suc (suc (suc (suc n)))))))) octet l o = absurd (omega (arith, l))

pub back_small : (skip octet : ℕ) → skip ≤ 7 → octet % 2 ^ skip < 2 ^ skip
back_small zero octet l = omega arith
back_small (suc zero) octet l = omega arith
back_small (suc (suc zero)) octet l = omega arith
back_small (suc (suc (suc zero))) octet l = omega arith
back_small (suc (suc (suc (suc zero)))) octet l = omega arith
back_small (suc (suc (suc (suc (suc zero))))) octet l = omega arith
back_small (suc (suc (suc (suc (suc (suc zero)))))) octet l = omega arith
back_small (suc (suc (suc (suc (suc (suc (suc zero))))))) octet l = omega arith
back_small (suc (suc (suc (suc (suc (suc (suc (suc n)))))))) octet l = absurd (omega (arith, l))

pub front_digits : (skip octet : ℕ) → skip ≤ 7 → first_bits skip octet ≡ digits_2 (8 - skip) (octet / 2 ^ skip)
front_digits skip octet l =
    let w = 8 - skip in
    let x = octet / 2 ^ skip in
    let p = octet % 2 ^ skip in
    let width : w + skip ≡ 8 = omega (arith, l) in
    let product = mul_comm (2 ^ skip) x in
    let whole = div-add-mod octet (2 ^ skip) in
    let number : octet ≡ p + x * 2 ^ skip = omega (arith, whole, product) in
    let size = digits_length w x in
    let split : digits_2 8 octet ≡ digits_2 w x ++ digits_2 skip p =
    ap (λ (z : ℕ). digits_2 z octet) (sym width) ∙ (ap (digits_2 (w + skip)) number
    ∙ digits_joined w skip p x (back_small skip octet l)) in
    ap (λ (z : List Bool). take w z) split ∙ (ap (λ (z : ℕ). take z (digits_2 w x ++ digits_2 skip p)) (sym size)
    ∙ take-append_seam (digits_2 w x) (digits_2 skip p))

-- no number has zeros
pub zero_digits : (n : ℕ) → digits_2 n 0 ≡ replicate n false
zero_digits zero = refl
zero_digits (suc n) = ap (λ (z : List Bool). z ++ false ∷ []) (zero_digits n) ∙ replicate_more n
  where
    replicate_more : (n : ℕ) → replicate n false ++ false ∷ [] ≡ replicate (suc n) false
    replicate_more zero = refl
    replicate_more (suc n) = ap (λ (z : List Bool). false ∷ z) (replicate_more n)

-- the bits of an octet
pub one_octet_bits : (octet : ℕ) → bits_in (octet ∷ []) ≡ digits_2 8 octet
one_octet_bits octet = append-nil (digits_2 8 octet)

-- the used bits of octets, by the last one
pub used_split : (skip last : ℕ) (front : List ℕ) → skip ≤ 7 →
    used_bits skip (front ++ last ∷ []) ≡ bits_in front ++ first_bits skip last
used_split skip last front l =
    let size = length-append front (last ∷ []) in
    let all = bits_length front in
    let n : 8 * length (front ++ last ∷ []) - skip ≡ length (bits_in front) + (8 - skip) = omega (arith, size, all, l) in
    ap (λ (z : ℕ). take z (bits_in (front ++ last ∷ []))) n
    ∙ (ap (λ (z : List Bool). take (length (bits_in front) + (8 - skip)) z) (bits_append front (last ∷ []))
    ∙ (take-append-add (bits_in front) (bits_in (last ∷ [])) (8 - skip)
    ∙ ap (λ (z : List Bool). bits_in front ++ take (8 - skip) z) (one_octet_bits last)))

-- octets that are unused whole are left away
pub used_front : (unused k : ℕ) (octets : List ℕ) → k + unused / 8 ≡ length octets →
    used_bits (unused % 8) (take k octets) ≡ used_bits unused octets
used_front unused k octets l =
    let some : k ≤ length octets = omega (arith, l) in
    let size = length-take-le k octets some in
    let bits = bits_length (take k octets) in
    let n : 8 * length (take k octets) - unused % 8 ≡ 8 * length octets - unused = omega (arith, size, l) in
    let few : 8 * length octets - unused ≤ length (bits_in (take k octets)) = omega (arith, size, bits, l) in
    ap (λ (z : ℕ). take z (bits_in (take k octets))) n
    ∙ (sym (take-append-le (8 * length octets - unused) (bits_in (take k octets)) (bits_in (drop k octets)) few)
    ∙ (ap (λ (z : List Bool). take (8 * length octets - unused) z) (sym (bits_append (take k octets) (drop k octets)))
    ∙ ap (λ (z : List ℕ). take (8 * length octets - unused) (bits_in z)) (take-append-drop k octets)))
