-- Laws of the strict identifier octets (X.690 8.1.2.2, 8.1.2.4).
use Rattle.std.proofs.Common.{lit≤, ◌≡◌, ℕ, suc, ◌+◌, ◌*◌, ◌/◌, ◌%◌, ◌^◌, ◌<◌, ◌≤◌, Bool, true, false, List, [], ◌∷◌}
use Rattle.std.proofs.Common.{◌++◌, length, map, get_or, refl, sym, ap, ◌∙◌, arith, subst, inl, inr, ◌⊎◌, length-append}
use Rattle.std.proofs.Math.Nat.{pow-suc, pow-le-pow_right, mul-le-mul_right}
use Rattle.std.specs.Int.Digits.{digits_of, AllBelowBase}
use Rattle.std.proofs.lemmas.List.{length-map}
use Rattle.std.proofs.lemmas.Int.Digits.{first_digits_of, length-digits_of-le, all_below_base_digits_of}
use Rattle.std.proofs.lemmas.Bool.{cases_lt}
use Rattle.std.proofs.lemmas.Bool.Decides.{nat_tests}
use Rattle.x690.specs.Octets.{IsOctets}
use Rattle.x690.specs.Digits.{weighted_sum, base_128_value, low_seven_bits}
use Rattle.x690.specs.Identifiers.{Identifier, bit, AreTagDigits, IsLowForm, IsHighForm, IsIdentifier, NeedsItsDigits}
use Rattle.x690.specs.Identifiers.{IsStrictIdentifier}
use Rattle.x690.specs.Strict.{with_bit_8, tag_digits, identifier_octets}
use Rattle.x690.specs.Laws.Digits.{weighted_sum_push}
use Rattle.x690.specs.Laws.Digits.Sums.{weighted_sum_lt, weighted_sum_digits, same_digits}
use Rattle.x690.specs.Laws.Identifiers.{identifier_some, identifier_is_octets}

-- the digits that get bit 8
abbrev leading_digits : ℕ → List ℕ
leading_digits number = digits_of 128 (number / 128)

below : (number : ℕ) → AllBelowBase 128 (leading_digits number)
below number = all_below_base_digits_of 128 (number / 128) (omega arith)

are_digits : (hs : List ℕ) (last : ℕ) → AllBelowBase 128 hs → last < 128 → AreTagDigits (map with_bit_8 hs ++ last ∷ [])
are_digits [] last h l = l
are_digits (a ∷ []) last h l = (omega arith, omega (arith, h.0), l)
are_digits (a ∷ b ∷ hs) last h l = (omega arith, omega (arith, h.0), are_digits (b ∷ hs) last h.1 l)

low_digits : (hs : List ℕ) (last : ℕ) → AllBelowBase 128 hs → last < 128 →
    map low_seven_bits (map with_bit_8 hs ++ last ∷ []) ≡ hs ++ last ∷ []
low_digits [] last h l = let e : last % 128 ≡ last = omega arith in cc
low_digits (a ∷ hs) last h l =
    let e : (128 + a) % 128 ≡ a = omega (arith, h.0) in
    let r = low_digits hs last h.1 l in
    cc

-- The digits of a tag number have bit 8 set on all octets but the last.
pub tag_digits_are : (number : ℕ) → AreTagDigits (tag_digits number)
tag_digits_are number = are_digits (leading_digits number) (number % 128) (below number) (omega arith)

-- They say the number.
pub tag_digits_value : (number : ℕ) → base_128_value (tag_digits number) ≡ number
tag_digits_value number =
    let e = ap (weighted_sum 128) (low_digits (leading_digits number) (number % 128) (below number) (omega arith)) in
    omega (
      arith,
      e,
      weighted_sum_push 128 (leading_digits number) (number % 128),
      weighted_sum_digits 128 (number / 128) (omega arith),
    )

-- How many they are.
pub tag_digits_count : (number : ℕ) → length (tag_digits number) ≡ length (digits_of 128 (number / 128)) + 1
tag_digits_count number = omega (
  arith,
  length-append (map with_bit_8 (leading_digits number)) (number % 128 ∷ []),
  length-map (leading_digits number) with_bit_8,
)

-- A number below 128^k has k digits at most.
pub tag_digits_few : (number k : ℕ) → number < 128 ^ suc k → length (tag_digits number) ≤ suc k
tag_digits_few number k h =
    let p : number < 128 ^ k * 128 = subst (λ (n : ℕ). number < n) (pow-suc 128 k) h in
    let q : number / 128 < 128 ^ k = omega arith in
    omega (arith, tag_digits_count number, length-digits_of-le 128 k (number / 128) (omega arith) q)

low_below : (ds : List ℕ) → AllBelowBase 128 (map low_seven_bits ds)
low_below [] = tt
low_below (d ∷ ds) = (omega arith, low_below ds)

-- octets say a number below 128 to the power of their number
pub value_lt : (ds : List ℕ) → base_128_value ds < 128 ^ length ds
value_lt ds =
    let w = weighted_sum_lt 128 (map low_seven_bits ds) (low_below ds) in
    subst (λ (k : ℕ). base_128_value ds < 128 ^ k) (length-map ds low_seven_bits) w

-- no digits of the number are fewer
fewest_digits : (number : ℕ) (ds : List ℕ) → AreTagDigits ds → base_128_value ds ≡ number →
    length (tag_digits number) ≤ length ds
fewest_digits number [] h e = absurd h
fewest_digits number (d ∷ ds) h e = let w = value_lt (d ∷ ds) in tag_digits_few number (length ds) (omega arith)

-- the first digit is not 0 where more digits follow
abbrev StartsWell : List ℕ → Type 0
StartsWell [] = ⊥
StartsWell (d ∷ ds) = d ≡ 128 → ⊥

-- powers of 128 in their order
pub power_le : (k m : ℕ) → m ≤ k → 128 ^ m ≤ 128 ^ k
power_le k m h = pow-le-pow_right {n = 128} (lit≤ tt) h

some_low : (d : ℕ) → 128 ≤ d → d < 256 → (d ≡ 128 → ⊥) → 1 ≤ d % 128
some_low d h l s = omega arith

value_ge : (d e : ℕ) (ds : List ℕ) → AreTagDigits (d ∷ e ∷ ds) → StartsWell (d ∷ e ∷ ds) →
    128 ^ length (e ∷ ds) ≤ base_128_value (d ∷ e ∷ ds)
value_ge d e ds h s =
    let first : 1 ≤ d % 128 = some_low d h.0 h.1 s in
    let l : length (map low_seven_bits (e ∷ ds)) ≡ length (e ∷ ds) = length-map (e ∷ ds) low_seven_bits in
    let p : 128 ^ length (map low_seven_bits (e ∷ ds)) ≡ 128 ^ length (e ∷ ds) = ap (λ k. 128 ^ k) l in
    let m : 1 * 128 ^ length (map low_seven_bits (e ∷ ds)) ≤ d % 128 * 128 ^ length (map low_seven_bits (e ∷ ds)) =
    mul-le-mul_right (128 ^ length (map low_seven_bits (e ∷ ds))) first in
    omega (arith, m, p)

-- digits of the number with no spare one are no more
most_digits : (number : ℕ) (ds : List ℕ) → AreTagDigits ds → StartsWell ds → base_128_value ds ≡ number →
    length ds ≤ length (tag_digits number)
most_digits number [] h s e = absurd h
most_digits number (d ∷ []) h s e = omega (arith, tag_digits_count number)
most_digits number (d ∷ c ∷ ds) h s e = elim (cases_lt (length (c ∷ ds)) (length (tag_digits number))) [
  | inl p ↦ omega arith
  | inr p ↦
      let w = value_lt (tag_digits number) in
      let v = tag_digits_value number in
      absurd (omega (arith, value_ge d c ds h s, power_le (length (c ∷ ds)) (length (tag_digits number)) p, w, v))
]

low_same : (ds es : List ℕ) → AreTagDigits ds → AreTagDigits es →
    map low_seven_bits ds ≡ map low_seven_bits es → ds ≡ es
low_same [] es h k e = absurd h
low_same (d ∷ ds) [] h k e = absurd k
low_same (d ∷ []) (x ∷ []) h k e = let l : d % 128 ≡ x % 128 = cc in let s : d ≡ x = omega arith in cc
low_same (d ∷ []) (x ∷ y ∷ es) h k e = cc
low_same (d ∷ c ∷ ds) (x ∷ []) h k e = cc
low_same (d ∷ c ∷ ds) (x ∷ y ∷ es) h k e =
    let l : d % 128 ≡ x % 128 = cc in
    let s : d ≡ x = omega (arith, h.0, h.1, k.0, k.1) in
    let t : map low_seven_bits (c ∷ ds) ≡ map low_seven_bits (y ∷ es) = cc in
    let r = low_same (c ∷ ds) (y ∷ es) h.2 k.2 t in
    cc

-- as many digits of one number are the same digits
same_tag_digits : (ds es : List ℕ) → AreTagDigits ds → AreTagDigits es → length ds ≡ length es →
    base_128_value ds ≡ base_128_value es → ds ≡ es
same_tag_digits ds es h k l e =
    low_same ds es h k (same_digits 128 (map low_seven_bits ds) (map low_seven_bits es) (low_below ds) (low_below es)
    (length-map ds low_seven_bits ∙ l ∙ sym (length-map es low_seven_bits)) e)

-- digits with no spare one are those of the number
pub only_tag_digits : (number : ℕ) (ds : List ℕ) → AreTagDigits ds → StartsWell ds → base_128_value ds ≡ number →
    ds ≡ tag_digits number
only_tag_digits number ds h s e =
    same_tag_digits ds (tag_digits number) h (tag_digits_are number)
    (omega (arith, most_digits number ds h s e, fewest_digits number ds h e)) (e ∙ sym (tag_digits_value number))

no_redundant : (number : ℕ) → 31 ≤ number → (hs : List ℕ) (last : ℕ) → last < 128 → (1 ≤ length hs → 0 < get_or hs 0 0) →
    NeedsItsDigits number (map with_bit_8 hs ++ last ∷ [])
no_redundant number h [] last l f = (h, λ e. omega arith)
no_redundant number h (a ∷ hs) last l f = let p : 0 < a = f (omega arith) in (h, λ e. omega arith)

leading_first : (number : ℕ) → 1 ≤ length (leading_digits number) → 0 < get_or (leading_digits number) 0 0
leading_first number some = elim (cases_lt 0 (number / 128)) [
  | inl p ↦ first_digits_of 128 (number / 128) (omega arith) p
  | inr p ↦ absurd (omega (arith, length-digits_of-le 128 0 (number / 128) (omega arith) (omega arith)))
]

-- the digits of a number have no spare one
pub tag_digits_needed : (number : ℕ) → 31 ≤ number → NeedsItsDigits number (tag_digits number)
tag_digits_needed number h = no_redundant number h (leading_digits number) (number % 128) (omega arith)
    (leading_first number)

-- The strict identifier octets of a number below 31 are one.
pub identifier_octets_low : (id : Identifier) → id.number < 31 →
    identifier_octets id ≡ (64 * id.class + 32 * bit id.constructed + id.number) ∷ []
unfolding identifier_octets
identifier_octets_low id h = grind (arith, nat_tests)

-- Those of a number from 31 on are one, and the digits.
pub identifier_octets_high : (id : Identifier) → 31 ≤ id.number →
    identifier_octets id ≡ (64 * id.class + 32 * bit id.constructed + 31) ∷ tag_digits id.number
unfolding identifier_octets
identifier_octets_high id h = grind (arith, nat_tests)

-- A bit is 1 at most.
pub bit_le : (b : Bool) → bit b ≤ 1
bit_le true = omega arith
bit_le false = omega arith

-- from 31 on the high form alone is there
high_alone : (low number : ℕ) (ds : List ℕ) → 31 ≤ number → IsLowForm low ds number ⊎ IsHighForm low ds number →
    (low ≡ 31) × AreTagDigits ds × (base_128_value ds ≡ number)
high_alone low number ds h (inl f) = absurd (omega arith)
high_alone low number ds h (inr f) = (f.0, f.1, f.3)

fewest_high : (id : Identifier) → 31 ≤ id.number → (q : List ℕ) → IsIdentifier q id →
    length (tag_digits id.number) + 1 ≤ length q
fewest_high id h [] i = absurd i
fewest_high id h (k ∷ ds) i =
    let f = high_alone i.0 id.number ds h i.4 in
    let w = fewest_digits id.number ds f.1 f.2 in
    omega arith

short_identifier : (id : Identifier) → id.class < 4 → id.number < 31 →
    IsIdentifier ((64 * id.class + 32 * bit id.constructed + id.number) ∷ []) id
short_identifier id c h = (id.number, c, omega arith, refl, inl (refl, omega arith, refl))

long_identifier : (id : Identifier) → id.class < 4 → 31 ≤ id.number → id.number < 2 ^ 32 →
    IsIdentifier ((64 * id.class + 32 * bit id.constructed + 31) ∷ tag_digits id.number) id
long_identifier id c h n = (
  31,
  c,
  omega arith,
  refl,
  inr (refl, tag_digits_are id.number, tag_digits_few id.number 4 (omega arith), tag_digits_value id.number, n),
)

-- the strict identifier octets of id
pub strict_identifier : (id : Identifier) → id.class < 4 → id.number < 2 ^ 32 →
    IsStrictIdentifier (identifier_octets id) id
strict_identifier id c n = elim (cases_lt id.number 31) [
  | inl h ↦
      subst (λ (o : List ℕ). IsStrictIdentifier o id) (sym (identifier_octets_low id h)) (short_identifier id c h, tt)
  | inr h ↦ subst (λ (o : List ℕ). IsStrictIdentifier o id) (sym (identifier_octets_high id h)) (
    long_identifier id c h n,
    tag_digits_needed id.number h,
  )
]

only_high : (id : Identifier) (k : ℕ) (ds : List ℕ) → k ≡ 64 * id.class + 32 * bit id.constructed + 31 →
    AreTagDigits ds → base_128_value ds ≡ id.number → NeedsItsDigits id.number ds → k ∷ ds ≡ identifier_octets id
only_high id k [] e h v s = absurd h
only_high id k (d ∷ ds) e h v s =
    let t : d ∷ ds ≡ tag_digits id.number = only_tag_digits id.number (d ∷ ds) h s.1 v in
    let u = identifier_octets_high id s.0 in
    cc

only_forms : (id : Identifier) (k low : ℕ) (ds : List ℕ) → k ≡ 64 * id.class + 32 * bit id.constructed + low →
    IsLowForm low ds id.number ⊎ IsHighForm low ds id.number → NeedsItsDigits id.number ds →
    k ∷ ds ≡ identifier_octets id
only_forms id k low ds e (inl f) s =
    let u = identifier_octets_low id (omega arith) in
    let d : ds ≡ [] = f.2 in
    let g : k ≡ 64 * id.class + 32 * bit id.constructed + id.number = omega arith in
    cc
only_forms id k low ds e (inr f) s = only_high id k ds (omega arith) f.1 f.3 s

-- there are no others
pub only_strict_identifier : (id : Identifier) (o : List ℕ) → IsStrictIdentifier o id → o ≡ identifier_octets id
only_strict_identifier id [] s = absurd s.0
only_strict_identifier id (k ∷ ds) s = only_forms id k s.0.0 ds s.0.3 s.0.4 s.1

-- no identifier octets of id are fewer
pub fewest_identifier : (id : Identifier) (q : List ℕ) → IsIdentifier q id → length (identifier_octets id) ≤ length q
fewest_identifier id q i = elim (cases_lt id.number 31) [
  | inl h ↦ let e = ap length (identifier_octets_low id h) in omega (arith, identifier_some q id i)
  | inr h ↦ let e = ap length (identifier_octets_high id h) in omega (arith, fewest_high id h q i)
]

-- one octet below 31, and else one more than the digits in base 128
pub identifier_octets_count_low : (id : Identifier) → id.number < 31 → length (identifier_octets id) ≡ 1
identifier_octets_count_low id h = ap length (identifier_octets_low id h)

-- How many octets the high form has.
pub identifier_octets_count_high : (id : Identifier) → 31 ≤ id.number →
    length (identifier_octets id) ≡ 2 + length (digits_of 128 (id.number / 128))
identifier_octets_count_high id h =
    let e = ap length (identifier_octets_high id h) in
    omega (arith, tag_digits_count id.number)

-- They are one octet at least.
pub identifier_octets_some : (id : Identifier) → 1 ≤ length (identifier_octets id)
identifier_octets_some id = elim (cases_lt id.number 31) [
  | inl h ↦ omega (arith, identifier_octets_count_low id h)
  | inr h ↦ omega (arith, identifier_octets_count_high id h)
]

-- They are 6 at most.
pub identifier_octets_few : (id : Identifier) → id.number < 2 ^ 32 → length (identifier_octets id) ≤ 6
identifier_octets_few id n = elim (cases_lt id.number 31) [
  | inl h ↦ omega (arith, identifier_octets_count_low id h)
  | inr h ↦ let e = ap length (identifier_octets_high id h) in omega (arith, tag_digits_few id.number 4 (omega arith))
]

-- they are octets
pub identifier_octets_octets : (id : Identifier) → id.class < 4 → id.number < 2 ^ 32 → IsOctets (identifier_octets id)
identifier_octets_octets id c n = identifier_is_octets (identifier_octets id) id (strict_identifier id c n).0
