-- Zeros at the end of bits are taken off.
use Rattle.std.proofs.Common.{◌≡◌, ◌∙◌, ap, sym, refl, inl, inr, ℕ, zero, suc, ◌+◌, ◌-◌, ◌*◌, ◌<◌, ◌≤◌, ◌/◌, ◌%◌, Bool, true, false, List, [], ◌∷◌, ◌++◌, length, get_or, take, arith, append_assoc, append-nil, length-append}
use Rattle.std.proofs.lemmas.Bool.{cases_lt}
use Rattle.std.specs.Prelude.{nat_eq, Option, Some, None, IfSome, IfNone}
use Rattle.std.proofs.lemmas.List.{take-append-le, take_all, take_more}
use Rattle.std.proofs.Math.Seq.{take-append-add}
use Rattle.asn1_schema.specs.Grammar.{digits_2, bits_in, trimmed, in_front_of}
use Rattle.asn1_schema.specs.Bits.{bit_at, used_bits, first_bits}
use Rattle.asn1_schema.proofs.BitContents.{digits_length, bits_length}
use Rattle.asn1_schema.proofs.UnusedBits.{bits_append}
use Rattle.asn1_schema.proofs.NamedBits.{trimmed_one}

-- a zero at the end is taken off
trimmed_zero : (xs : List Bool) → trimmed (xs ++ false ∷ []) ≡ trimmed xs
trimmed_zero [] = refl
trimmed_zero (x ∷ xs) = ap (in_front_of x) (trimmed_zero xs)

-- one bit fewer of a number
fewer_taken : (w u n : ℕ) → u < w → take (w - u) (digits_2 w n) ≡ take (w - suc u) (digits_2 w n) ++ bit_at u n ∷ []
fewer_taken zero u n l = absurd (omega (arith, l))
fewer_taken (suc w) zero n l =
    let d = digits_length (suc w) n in
    let f = digits_length w (n / 2) in
    let k : suc w - 1 ≡ w = omega arith in
    take_all (suc w - 0) (digits_2 (suc w) n) (omega (arith, d))
    ∙ ap (λ (z : List Bool). z ++ nat_eq (n % 2) 1 ∷ []) (sym (ap (λ (i : ℕ). take i (digits_2 (suc w) n)) k
    ∙ take-append-le w (digits_2 w (n / 2)) (nat_eq (n % 2) 1 ∷ []) (omega (arith, f))
    ∙ take_all w (digits_2 w (n / 2)) (omega (arith, f))))
fewer_taken (suc w) (suc u) n l =
    let f = digits_length w (n / 2) in
    let k : suc w - suc u ≡ w - u = omega arith in
    let m : suc w - suc (suc u) ≡ w - suc u = omega arith in
    ap (λ (i : ℕ). take i (digits_2 (suc w) n)) k
    ∙ take-append-le (w - u) (digits_2 w (n / 2)) (nat_eq (n % 2) 1 ∷ []) (omega (arith, f))
    ∙ fewer_taken w u (n / 2) (omega (arith, l))
    ∙ ap (λ (z : List Bool). z ++ bit_at u (n / 2) ∷ []) (sym (ap (λ (i : ℕ). take i (digits_2 (suc w) n)) m
    ∙ take-append-le (w - suc u) (digits_2 w (n / 2)) (nat_eq (n % 2) 1 ∷ []) (omega (arith, f))))

fewer_bits : (place octet : ℕ) → place < 8 → first_bits place octet ≡ first_bits (suc place) octet ++ bit_at place octet ∷ []
fewer_bits place octet l = fewer_taken 8 place octet l

pub set_last : (before : List Bool) (place octet : ℕ) → place < 8 → bit_at place octet ≡ true →
    trimmed (before ++ first_bits place octet) ≡ before ++ first_bits place octet
set_last before place octet l b =
    let e : before ++ first_bits place octet ≡ (before ++ first_bits (suc place) octet) ++ true ∷ [] =
    ap (λ (z : List Bool). before ++ z) (fewer_bits place octet l
    ∙ ap (λ (z : Bool). first_bits (suc place) octet ++ z ∷ []) b)
    ∙ sym (append_assoc before (first_bits (suc place) octet) (true ∷ [])) in
    ap trimmed e ∙ trimmed_one (before ++ first_bits (suc place) octet) ∙ sym e

pub unset_last : (before : List Bool) (place octet : ℕ) → place < 8 → bit_at place octet ≡ false →
    trimmed (before ++ first_bits place octet) ≡ trimmed (before ++ first_bits (place + 1) octet)
unset_last before place octet l b =
    let n : suc place ≡ place + 1 = omega arith in
    let e : before ++ first_bits place octet ≡ (before ++ first_bits (suc place) octet) ++ false ∷ [] =
    ap (λ (z : List Bool). before ++ z) (fewer_bits place octet l
    ∙ ap (λ (z : Bool). first_bits (suc place) octet ++ z ∷ []) b)
    ∙ sym (append_assoc before (first_bits (suc place) octet) (false ∷ [])) in
    ap trimmed e ∙ trimmed_zero (before ++ first_bits (suc place) octet)
    ∙ ap (λ (i : ℕ). trimmed (before ++ first_bits i octet)) n

-- none is left
pub no_bits : (before : List Bool) (place octet : ℕ) → 8 ≤ place → trimmed (before ++ first_bits place octet) ≡ trimmed before
no_bits before place octet l =
    let z : 8 - place ≡ 0 = omega (arith, l) in
    ap (λ (i : ℕ). trimmed (before ++ take i (digits_2 8 octet))) z ∙ ap trimmed (append-nil before)

module _ (before : List Bool) (place octet : ℕ) (l : place < 8) (b : bit_at place octet ≡ false) where
  pub some_later : (r : Option ℕ) →
      IfSome r (λ p. trimmed (before ++ first_bits (place + 1) octet) ≡ before ++ first_bits p octet) →
      IfSome r (λ p. trimmed (before ++ first_bits place octet) ≡ before ++ first_bits p octet)
  some_later None a = tt
  some_later (Some p) a = unset_last before place octet l b ∙ a

  pub none_later : (r : Option ℕ) →
      IfNone r (trimmed (before ++ first_bits (place + 1) octet) ≡ trimmed before) →
      IfNone r (trimmed (before ++ first_bits place octet) ≡ trimmed before)
  none_later None a = unset_last before place octet l b ∙ a
  none_later (Some p) a = tt

-- the bits of the last octet stand behind those of the others
used_truncated : (init : List ℕ) (last z : ℕ) → z ≤ 8 → used_bits z (init ++ last ∷ []) ≡ bits_in init ++ first_bits z last
used_truncated init last z l =
    let n = length-append init (last ∷ []) in
    let b = bits_length init in
    let k : 8 * length (init ++ last ∷ []) - z ≡ length (bits_in init) + (8 - z) = omega (arith, n, b, l) in
    ap (λ (i : ℕ). take i (bits_in (init ++ last ∷ []))) k
    ∙ ap (λ (y : List Bool). take (length (bits_in init) + (8 - z)) y) (bits_append init (last ∷ []))
    ∙ take-append-add (bits_in init) (digits_2 8 last ++ []) (8 - z)
    ∙ ap (λ (y : List Bool). bits_in init ++ take (8 - z) y) (append-nil (digits_2 8 last))

used_short : (init : List ℕ) (last z : ℕ) → 8 ≤ z → used_bits z (init ++ last ∷ []) ≡ used_bits (z - 8) init
used_short init last z l =
    let n = length-append init (last ∷ []) in
    let b = bits_length init in
    let k : 8 * length (init ++ last ∷ []) - z ≡ 8 * length init - (z - 8) = omega (arith, n, l) in
    ap (λ (i : ℕ). take i (bits_in (init ++ last ∷ []))) k
    ∙ ap (λ (y : List Bool). take (8 * length init - (z - 8)) y) (bits_append init (last ∷ []))
    ∙ take-append-le (8 * length init - (z - 8)) (bits_in init) (digits_2 8 last ++ []) (omega (arith, b))

used_whole : (o : List ℕ) → used_bits 0 o ≡ bits_in o
used_whole o = let b = bits_length o in take_all (8 * length o - 0) (bits_in o) (omega (arith, b))

module _ (o : List ℕ) (len z : ℕ) (some : 0 < len) (within : len ≤ length o) where
  parted : take len o ≡ take (len - 1) o ++ get_or o (len - 1) 0 ∷ []
  parted =
      let k : len ≡ (len - 1) + 1 = omega (arith, some) in
      ap (λ (i : ℕ). take i o) k ∙ take_more o (len - 1) 0 (omega (arith, some, within))

  -- there is a bit that is set
  pub set_there : (p : ℕ) → p ≤ 7 → ((before : List Bool) →
      trimmed (before ++ first_bits z (get_or o (len - 1) 0)) ≡ before ++ first_bits p (get_or o (len - 1) 0)) → z ≤ 8 →
      used_bits p (take len o) ≡ trimmed (used_bits z (take len o))
  set_there p few a l =
      ap (λ (y : List ℕ). used_bits p y) parted ∙ used_truncated (take (len - 1) o) (get_or o (len - 1) 0) p (omega (arith, few))
      ∙ sym (a (bits_in (take (len - 1) o)))
      ∙ ap trimmed (sym (ap (λ (y : List ℕ). used_bits z y) parted
      ∙ used_truncated (take (len - 1) o) (get_or o (len - 1) 0) z l))

  -- there is none
  pub none_there : ((before : List Bool) →
      trimmed (before ++ first_bits z (get_or o (len - 1) 0)) ≡ trimmed before) →
      trimmed (used_bits z (take len o)) ≡ trimmed (used_bits (z - 8) (take (len - 1) o))
  none_there a = ap (λ (y : List ℕ). trimmed (used_bits z y)) parted ∙ by_place
    where
      by_place : trimmed (used_bits z (take (len - 1) o ++ get_or o (len - 1) 0 ∷ [])) ≡
          trimmed (used_bits (z - 8) (take (len - 1) o))
      by_place = elim (cases_lt 8 z) [
        | inl l ↦ ap trimmed (used_short (take (len - 1) o) (get_or o (len - 1) 0) z (omega (arith, l)))
        | inr l ↦
            let n : z - 8 ≡ 0 = omega (arith, l) in
            ap trimmed (used_truncated (take (len - 1) o) (get_or o (len - 1) 0) z l) ∙ a (bits_in (take (len - 1) o))
            ∙ ap trimmed (sym (ap (λ (i : ℕ). used_bits i (take (len - 1) o)) n ∙ used_whole (take (len - 1) o)))
      ]
