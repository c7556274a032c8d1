-- Bits have one strict content.
use Rattle.std.proofs.Common.{◌≡◌, ◌∙◌, ap, sym, refl, ℕ, zero, suc, ◌<◌, ◌*◌, ◌^◌, ◌/◌, ◌%◌, Bool, true, false, List, [], ◌∷◌, ◌++◌, length, arith, pow-suc}
use Rattle.std.specs.Prelude.{replicate, nat_eq}
use Rattle.std.proofs.lemmas.List.{length-append}
use Rattle.std.proofs.lemmas.Bool.{eqb-true}
use Rattle.x690.specs.Octets.{IsOctets}
use Rattle.asn1_schema.specs.Grammar.{digits_2, bits_in, IsBitContent}
use Rattle.asn1_schema.specs.Rules.{strict}
use Rattle.asn1_schema.proofs.SameParts.{same_parts}

pub digits_length : (w n : ℕ) → length (digits_2 w n) ≡ w
digits_length zero n = refl
digits_length (suc w) n =
    let l = length-append (digits_2 w (n / 2)) (nat_eq (n % 2) 1 ∷ []) in
    let i = digits_length w (n / 2) in
    omega (arith, l, i)

bit_one : (m n : ℕ) → m < 2 → n < 2 → nat_eq m 1 ≡ nat_eq n 1 → m ≡ n
bit_one m n a b e = elim (nat_eq m 1) as (λ t. nat_eq m 1 ≡ t → t ≡ nat_eq n 1 → m ≡ n) [
  | true ↦ λ f g. let h = eqb-true m 1 f in let k = eqb-true n 1 (sym g) in h ∙ sym k
  | false ↦ λ f g. grind (arith, f, g)
] refl e

half_below : (p n : ℕ) → n < p * 2 → n / 2 < p
half_below p n h = omega (arith, h)

of_halves : (m n : ℕ) → m / 2 ≡ n / 2 → m % 2 ≡ n % 2 → m ≡ n
of_halves m n h r = omega (arith, h, r)

digits_one : (w m n : ℕ) → m < 2 ^ w → n < 2 ^ w → digits_2 w m ≡ digits_2 w n → m ≡ n
digits_one zero m n a b e = omega (arith, a, b)
digits_one (suc w) m n a b e =
    let p = pow-suc 2 w in
    let l : length (digits_2 w (m / 2)) ≡ length (digits_2 w (n / 2)) =
    digits_length w (m / 2) ∙ sym (digits_length w (n / 2)) in
    let s = same_parts (digits_2 w (m / 2)) (digits_2 w (n / 2)) (nat_eq (m % 2) 1 ∷ []) (nat_eq (n % 2) 1 ∷ []) l e in
    let last = s.1 in
    let same : nat_eq (m % 2) 1 ≡ nat_eq (n % 2) 1 = cc in
    let h = digits_one w (m / 2) (n / 2) (half_below (2 ^ w) m (omega (arith, a, p)))
    (half_below (2 ^ w) n (omega (arith, b, p))) s.0 in
    of_halves m n h (bit_one (m % 2) (n % 2) (omega arith) (omega arith) same)

pub bits_length : (o : List ℕ) → length (bits_in o) ≡ 8 * length o
bits_length [] = refl
bits_length (x ∷ o) =
    let l = length-append (digits_2 8 x) (bits_in o) in
    let d = digits_length 8 x in
    let i = bits_length o in
    omega (arith, l, d, i)

bits_one : (o u : List ℕ) → IsOctets o → IsOctets u → bits_in o ≡ bits_in u → o ≡ u
bits_one [] [] a b e = refl
bits_one [] (y ∷ u) a b e = absurd (let f = ap length e in let l = bits_length (y ∷ u) in omega (arith, f, l))
bits_one (x ∷ o) [] a b e = absurd (let f = ap length e in let l = bits_length (x ∷ o) in omega (arith, f, l))
bits_one (x ∷ o) (y ∷ u) a b e =
    let l : length (digits_2 8 x) ≡ length (digits_2 8 y) = digits_length 8 x ∙ sym (digits_length 8 y) in
    let s = same_parts (digits_2 8 x) (digits_2 8 y) (bits_in o) (bits_in u) l e in
    let first : x ≡ y = digits_one 8 x y (a 0) (b 0) s.0 in
    let rest : o ≡ u = bits_one o u (λ k. a (suc k)) (λ k. b (suc k)) s.1 in
    cc

-- content with few unused zeros is determined by the bits
pub one_bit_content : (bs : List Bool) (c d : List ℕ) → IsBitContent strict c bs → IsBitContent strict d bs → c ≡ d
one_bit_content bs c d a b =
    let la = bits_length a.octets in
    let lb = bits_length b.octets in
    let ea = ap length a.bits in
    let eb = ap length b.bits in
    let pa = length-append bs a.unused in
    let pb = length-append bs b.unused in
    let n : length a.unused ≡ length b.unused = omega (arith, la, lb, ea, eb, pa, pb, a.few, b.few) in
    let z : a.unused ≡ b.unused =
    a.allowed ∙ (ap (λ (k : ℕ). replicate k false) n ∙ sym b.allowed) in
    let same : bits_in a.octets ≡ bits_in b.octets =
    a.bits ∙ (ap (λ (u : List Bool). bs ++ u) z ∙ sym b.bits) in
    let o : a.octets ≡ b.octets = bits_one a.octets b.octets a.are_octets b.are_octets same in
    a.is ∙ (ap (λ (k : ℕ). k ∷ a.octets) n ∙ (ap (λ (u : List ℕ). length b.unused ∷ u) o ∙ sym b.is))
