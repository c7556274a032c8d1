-- Octets of an integer that are read one after the other.
use Rattle.std.proofs.Common.{◌≡◌, ℕ, zero, suc, ◌+◌, ◌^◌, ◌<◌, ◌≤◌, inl, inr, Bool, true, false, IsTrue, ◌↔◌, List, []}
use Rattle.std.proofs.Common.{◌∷◌, length, take, drop, get_or, ℤ, pos, ◌+ℤ◌, ◌-ℤ◌, ◌*ℤ◌, refl, sym, ap, ◌∙◌, arith}
use Rattle.std.proofs.Common.{subst, take-append-drop}
use Rattle.std.proofs.lemmas.Int.{ints}
use Rattle.std.proofs.lemmas.Bool.{cases_lt}
use Rattle.std.proofs.lemmas.List.{length-take}
use Rattle.std.proofs.Math.Nat.{pow-suc}
use Rattle.x690.specs.Octets.{IsOctets}
use Rattle.x690.specs.Digits.{base_256_value, twos_complement_value}
use Rattle.x690.specs.Signed.{IsSigned}
use Rattle.x690.specs.Laws.Octets.{octets_front}
use Rattle.x690.specs.Laws.Digits.{weighted_sum_more}
use Rattle.x690.specs.Laws.Integers.{value_low, value_high}
use Rattle.x690.specs.Laws.Signed.{octets_say_signed}

-- the digits of a natural number, or of a negative one, which ones go before
abbrev pub signed_sum : Bool → List ℕ → ℤ
signed_sum false octets = pos (base_256_value octets)
signed_sum true octets = pos (base_256_value octets) -ℤ pos (256 ^ length octets)

-- the sign is the first bit
abbrev pub IsSign : Bool → List ℕ → Type 0
IsSign negative octets = IsTrue negative ↔ (128 ≤ get_or octets 0 0)

pub sum_is_value : (negative : Bool) (octets : List ℕ) → IsSign negative octets →
    signed_sum negative octets ≡ twos_complement_value octets
sum_is_value false [] s = refl
sum_is_value true [] s = absurd (omega (arith, s.0 refl))
sum_is_value false (first ∷ others) s = elim (cases_lt first 128) [
  | inl h ↦ sym (value_low first others h)
  | inr h ↦ absurd (let e = s.1 h in cc)
]
sum_is_value true (first ∷ others) s = omega (arith, ints, value_high first others (s.0 refl))

pub sum_more : (negative : Bool) (octets : List ℕ) (i : ℕ) → i < length octets →
    signed_sum negative (take (i + 1) octets) ≡
    signed_sum negative (take i octets) *ℤ pos 256 +ℤ pos (get_or octets i 0)
sum_more false octets i h = omega (arith, ints, weighted_sum_more 256 octets i h)
sum_more true octets i h =
    let l : length (take (i + 1) octets) ≡ suc (length (take i octets)) =
    omega (arith, length-take (i + 1) octets, length-take i octets) in
    let p = ap (λ (n : ℕ). 256 ^ n) l ∙ pow-suc 256 (length (take i octets)) in
    omega (arith, ints, weighted_sum_more 256 octets i h, p)

-- what is read of octets that say an integer is small
pub sum_is_small : (negative : Bool) (octets : List ℕ) (i : ℕ) → IsOctets octets → IsSign negative octets →
    i < length octets → i ≤ 15 → IsSigned 15 (signed_sum negative (take i octets))
sum_is_small false octets zero o s h l = record { least = omega (arith, ints); most = omega (arith, ints) }
sum_is_small true octets zero o s h l = record { least = omega (arith, ints); most = omega (arith, ints) }
sum_is_small negative [] (suc i) o s h l = absurd (omega arith)
sum_is_small negative (first ∷ others) (suc i) o s h l =
    let front : IsOctets (take (suc i) (first ∷ others)) = octets_front (take (suc i) (first ∷ others))
    (drop (suc i) (first ∷ others)) (subst IsOctets (sym (take-append-drop (suc i) (first ∷ others))) o) in
    subst (IsSigned 15) (sym (sum_is_value negative (take (suc i) (first ∷ others)) s))
    (octets_say_signed (take (suc i) (first ∷ others)) 15 front (omega (
      arith,
      length-take (suc i) (first ∷ others),
    )))
