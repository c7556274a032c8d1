-- Bits with names have no zeros at the end.
use Rattle.std.proofs.Common.{◌≡◌, ◌∙◌, ap, sym, subst, refl, ℕ, zero, suc, ◌-◌, ◌+◌, ◌*◌, ◌<◌, ◌≤◌, ◌/◌, ◌%◌, ◌↔◌, IsTrue, Bool, true, false, List, [], ◌∷◌, ◌++◌, length, arith, append_assoc, append-nil, take}
use Rattle.std.specs.Prelude.{nat_eq}
use Rattle.asn1_schema.specs.declared.coding.Coding.{Coding}
use Rattle.asn1_schema.specs.declared.coding.Coding.TheVariants as codings
use Rattle.asn1_schema.specs.Reading.{rules_of}
use Rattle.std.proofs.lemmas.List.{take-append-le, take_all, length-append}
use Rattle.asn1_schema.specs.Grammar.{digits_2, bits_in, trimmed, in_front_of}
use Rattle.asn1_schema.specs.Bits.{bit_at, used_bits}
use Rattle.asn1_schema.proofs.BitContents.{digits_length, bits_length}
use Rattle.asn1_schema.proofs.UnusedBits.{bits_append}

front_some : (b : Bool) (ys : List Bool) (y : Bool) → in_front_of b (ys ++ y ∷ []) ≡ b ∷ (ys ++ y ∷ [])
front_some true [] y = refl
front_some true (z ∷ ys) y = refl
front_some false [] y = refl
front_some false (z ∷ ys) y = refl

front_short : (b : Bool) (ys : List Bool) → length (in_front_of b ys) ≤ suc (length ys)
front_short true [] = omega arith
front_short true (z ∷ ys) = omega arith
front_short false [] = omega arith
front_short false (z ∷ ys) = omega arith

pub trimmed_one : (xs : List Bool) → trimmed (xs ++ true ∷ []) ≡ xs ++ true ∷ []
trimmed_one [] = refl
trimmed_one (x ∷ xs) = ap (in_front_of x) (trimmed_one xs) ∙ front_some x xs true

trimmed_short : (xs : List Bool) → length (trimmed (xs ++ false ∷ [])) ≤ length xs
trimmed_short [] = omega arith
trimmed_short (x ∷ xs) =
    let l = trimmed_short xs in
    let f = front_short x (trimmed (xs ++ false ∷ [])) in
    omega (arith, l, f)

trimmed_zero : (xs : List Bool) → trimmed (xs ++ false ∷ []) ≡ xs ++ false ∷ [] → ⊥
trimmed_zero xs e =
    let l = trimmed_short xs in
    let n = ap (λ (ys : List Bool). length ys) e in
    let m = length-append xs (false ∷ []) in
    omega (arith, l, n, m)

by_last : (bit : Bool) (xs : List Bool) → IsTrue bit ↔ (trimmed (xs ++ bit ∷ []) ≡ xs ++ bit ∷ [])
by_last true xs = (λ yes. trimmed_one xs, λ e. refl)
by_last false xs = (λ yes. absurd (cc (yes)), λ e. absurd (trimmed_zero xs e))

-- the last of the bits that are taken of a number
last_taken : (w u n : ℕ) → u < w → (init : List Bool) × (take (w - u) (digits_2 w n) ≡ init ++ bit_at u n ∷ [])
last_taken zero u n l = absurd (omega (arith, l))
last_taken (suc w) zero n l =
    let d = digits_length (suc w) n in
    (digits_2 w (n / 2), take_all (suc w - 0) (digits_2 (suc w) n) (omega (arith, d)))
last_taken (suc w) (suc u) n l =
    let d = digits_length w (n / 2) in
    let k : suc w - suc u ≡ w - u = omega arith in
    let r = last_taken w u (n / 2) (omega (arith, l)) in (
      r.0,
      ap (λ (i : ℕ). take i (digits_2 (suc w) n)) k
          ∙ take-append-le (w - u) (digits_2 w (n / 2)) (nat_eq (n % 2) 1 ∷ []) (omega (arith, d)) ∙ r.1,
    )

take_behind : (xs ys : List Bool) (k : ℕ) → take (length xs + k) (xs ++ ys) ≡ xs ++ take k ys
take_behind [] ys k = ap (λ (i : ℕ). take i ys) (omega arith)
take_behind (x ∷ xs) ys k =
    let n : length (x ∷ xs) + k ≡ suc (length xs + k) = omega arith in
    ap (λ (i : ℕ). take i (x ∷ (xs ++ ys))) n ∙ ap (λ (zs : List Bool). x ∷ zs) (take_behind xs ys k)

-- and of those that octets have
last_used : (o init : List ℕ) (last u : ℕ) → o ≡ init ++ last ∷ [] → u ≤ 7 →
    (before : List Bool) × (used_bits u o ≡ before ++ bit_at u last ∷ [])
last_used o init last u e l =
    let n = ap (λ (z : List ℕ). length z) e ∙ length-append init (last ∷ []) in
    let b = bits_length init in
    let k : 8 * length o - u ≡ length (bits_in init) + (8 - u) = omega (arith, n, b, l) in
    let r = last_taken 8 u last (omega (arith, l)) in (
      bits_in init ++ r.0,
      ap (λ (i : ℕ). take i (bits_in o)) k
          ∙ ap (λ (z : List ℕ). take (length (bits_in init) + (8 - u)) (bits_in z)) e
          ∙ ap (λ (z : List Bool). take (length (bits_in init) + (8 - u)) z) (bits_append init (last ∷ []))
          ∙ take_behind (bits_in init) (digits_2 8 last ++ []) (8 - u)
          ∙ ap (λ (z : List Bool). bits_in init ++ take (8 - u) z) (append-nil (digits_2 8 last))
          ∙ ap (λ (z : List Bool). bits_in init ++ z) r.1
          ∙ sym (append_assoc (bits_in init) r.0 (bit_at u last ∷ [])),
    )

pub last_told : (o init : List ℕ) (last u : ℕ) → o ≡ init ++ last ∷ [] → u ≤ 7 →
    IsTrue (bit_at u last) ↔ (trimmed (used_bits u o) ≡ used_bits u o)
last_told o init last u e l =
    let r = last_used o init last u e l in
    subst (λ (z : List Bool). IsTrue (bit_at u last) ↔ (trimmed z ≡ z)) (sym r.1) (by_last (bit_at u last) r.0)

pub by_rules : (e : Coding) (bs : List Bool) → trimmed bs ≡ bs → (rules_of e).Named bs
by_rules codings.Der bs t = t
by_rules (codings.Ber max) bs t = tt
