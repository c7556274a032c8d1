-- Hexadecimal digits: how they are read, and that they stand for one string of octets.
use Rattle.std.proofs.Common.{Some, ◌≡◌, ◌≢◌, ℕ, zero, suc, ◌+◌, ◌*◌, ◌/◌, ◌%◌, ◌<◌, ◌==◌, ◌&&◌, ◌||◌, nat_lt, cond}
use Rattle.std.proofs.Common.{Bool, true, false, List, [], ◌∷◌, ◌++◌, length, take, slice_index, slice_set, refl, sym}
use Rattle.std.proofs.Common.{ap, ◌∙◌, arith, inl, inr, ◌⊎◌, codes, subst, append_assoc}
use Rattle.std.proofs.lemmas.Bool.{and_parts, cases_lt, eqb-true}
use Rattle.std.proofs.lemmas.Bool.Decides.{nat_tests}
use Rattle.std.proofs.lemmas.List.{take_more, take_more_set}
use Rattle.hex.specs.Hex.{hex_digit_value}
use Rattle.hex.proofs.HexLemmas.{IsDigits-lower_digits, IsDigits-upper_digits}
use Rattle.asn1vec_answers.specs.Request.{IsDigit, AreHexadecimalDigits, StandsFor}

-- The table.

abbrev pub lower : ℕ → ℕ
lower d = slice_index (codes "0123456789abcdef") d

abbrev pub upper : ℕ → ℕ
upper d = slice_index (codes "0123456789ABCDEF") d

-- all numbers below n pass a test
abbrev pub all_below : (ℕ → Bool) → ℕ → Bool
all_below test zero = true
all_below test (suc n) = test n && all_below test n

passes : (test : ℕ → Bool) (n k : ℕ) → all_below test n ≡ true → k < n → test k ≡ true
passes test zero k h lt = absurd (omega arith)
passes test (suc n) k h lt =
    let parts = and_parts (test n) (all_below test n) h in
    elim (cases_lt k n) [
      | inl below ↦ passes test n k parts.1 below
      | inr top ↦
          let e : k ≡ n = omega arith in
          rw e parts.0
    ]

-- what has a number below 16 is the digit of that number
abbrev pub is_digit_or_none : List ℕ → ℕ → Bool
is_digit_or_none table c = cond (nat_lt (slice_index table c) 16)
    ((c == lower (slice_index table c)) || (c == upper (slice_index table c))) true

-- the digits of a number have that number
abbrev pub has_its_number : List ℕ → ℕ → Bool
has_its_number table d = (slice_index table (lower d) == d) && (slice_index table (upper d) == d)

one_of_two : (small c l u : ℕ) → cond (nat_lt small 16) ((c == l) || (c == u)) true ≡ true → small < 16 →
    (c ≡ l) ⊎ (c ≡ u)
one_of_two small c l u h lt = grind (arith, nat_tests)

pub digit_in : (table : List ℕ) → all_below (is_digit_or_none table) 256 ≡ true → (c : ℕ) → c < 256 →
    slice_index table c < 16 → IsDigit (slice_index table c) c
digit_in table h c octet small =
    (small, one_of_two (slice_index table c) c _ _ (passes (is_digit_or_none table) 256 c h octet) small)

pub number_in : (table : List ℕ) → all_below (has_its_number table) 16 ≡ true → (d c : ℕ) → IsDigit d c →
    slice_index table c ≡ d
number_in table h d c (small, inl e) = ap (slice_index table) e
    ∙ eqb-true _ _ (and_parts (slice_index table (lower d) == d) _ (passes (has_its_number table) 16 d h small)).0
number_in table h d c (small, inr e) = ap (slice_index table) e
    ∙ eqb-true _ _ (and_parts (slice_index table (lower d) == d) _ (passes (has_its_number table) 16 d h small)).1

-- Digits of octets.

-- one more octet, behind the others
one_more : (octets digits : List ℕ) (octet high low : ℕ) → AreHexadecimalDigits octets digits →
    IsDigit (octet / 16) high →
    IsDigit (octet % 16) low → AreHexadecimalDigits (octets ++ octet ∷ []) (digits ++ high ∷ low ∷ [])
one_more [] digits octet high low h a b = (high, low, [], a, b, refl, ap (λ l. l ++ high ∷ low ∷ []) h)
one_more (x ∷ octets) digits octet high low (first, second, rest, p, q, more, e) a b = (
  first,
  second,
  rest ++ high ∷ low ∷ [],
  p,
  q,
  one_more octets rest octet high low more a b,
  ap (λ l. l ++ high ∷ low ∷ []) e,
)

-- two digits more are read
pub pair_read : (octets digits : List ℕ) (i high low : ℕ) → i < length octets → 2 * i + 1 < length digits →
    IsDigit high (slice_index digits (2 * i)) → IsDigit low (slice_index digits (2 * i + 1))
    → AreHexadecimalDigits (take i octets) (take (2 * i) digits) →
    AreHexadecimalDigits (take (i + 1) (slice_set octets i (high * 16 + low))) (take (2 * (i + 1)) digits)
pair_read octets digits i high low room fits a b read =
    let octet : ℕ = high * 16 + low in
    let first : high ≡ octet / 16 = omega (arith, a.0, b.0) in
    let second : low ≡ octet % 16 = omega (arith, a.0, b.0) in
    let two : 2 * (i + 1) ≡ 2 * i + 1 + 1 = omega arith in
    let front : take (2 * (i + 1)) digits ≡
    take (2 * i) digits ++ slice_index digits (2 * i) ∷ slice_index digits (2 * i + 1) ∷ [] =
    rw (two, take_more digits (2 * i + 1) 0 fits, take_more digits (2 * i) 0 (omega arith))
    (append_assoc (take (2 * i) digits) _ _) in
    rw (front, take_more_set octets i octet room)
    (one_more (take i octets) (take (2 * i) digits) octet _ _ read
    (subst (λ (d : ℕ). IsDigit d (slice_index digits (2 * i))) first a)
    (subst (λ (d : ℕ). IsDigit d (slice_index digits (2 * i + 1))) second b))

-- an even number of digits
pub even_digits : (octets digits : List ℕ) → AreHexadecimalDigits octets digits → length digits ≡ 2 * length octets
even_digits [] digits h = rw h refl
even_digits (octet ∷ octets) digits (high, low, rest, a, b, more, e) =
    let n = even_digits octets rest more in
    rw e (omega (arith, n))

-- the digits of one of the octets
pub digits_at : (octets digits : List ℕ) (i : ℕ) → AreHexadecimalDigits octets digits → 2 * i + 1 < length digits
    → (octet : ℕ) × IsDigit (octet / 16) (slice_index digits (2 * i)) ×
    IsDigit (octet % 16) (slice_index digits (2 * i + 1))
digits_at [] digits i h lt = absurd (omega (arith, ap length h))
digits_at (octet ∷ octets) digits zero (high, low, rest, a, b, more, e) lt = rw e (octet, a, b)
digits_at (octet ∷ octets) digits (suc i) (high, low, rest, a, b, more, e) lt =
    let n = ap length e in
    let first : 2 * suc i ≡ suc (suc (2 * i)) = omega arith in
    let second : 2 * suc i + 1 ≡ suc (suc (2 * i + 1)) = omega arith in
    rw (e, second, first) (digits_at octets rest i more (omega (arith, n)))

-- One meaning.

value_of_digit : (d c : ℕ) → IsDigit d c → hex_digit_value c ≡ Some d
value_of_digit d c (small, inl e) = ap hex_digit_value e ∙ IsDigits-lower_digits d small
value_of_digit d c (small, inr e) = ap hex_digit_value e ∙ IsDigits-upper_digits d small

one_number : (d e c : ℕ) → IsDigit d c → IsDigit e c → d ≡ e
one_number d e c a b = let same : Some d ≡ Some e = sym (value_of_digit d c a) ∙ value_of_digit e c b in cc

same_octets : (octets others digits : List ℕ) → AreHexadecimalDigits octets digits →
    AreHexadecimalDigits others digits →
    octets ≡ others
same_octets [] [] digits h k = refl
same_octets [] (y ∷ others) digits h (high, low, rest, a, b, more, e) = absurd (cc)
same_octets (x ∷ octets) [] digits (high, low, rest, a, b, more, e) k = absurd (cc)
same_octets (x ∷ octets) (y ∷ others) digits (high, low, rest, a, b, more, e) (first, second, tail, p, q, after, f) =
    let one : high ≡ first = cc in
    let two : low ≡ second = cc in
    let end : rest ≡ tail = cc in
    let m = one_number (x / 16) (y / 16) first (subst (IsDigit (x / 16)) one a) p in
    let n = one_number (x % 16) (y % 16) second (subst (IsDigit (x % 16)) two b) q in
    let same : x ≡ y = omega (arith, m, n) in
    let others_same = same_octets octets others tail (subst (AreHexadecimalDigits octets) end more) after in
    cc

-- no octet stands behind `-`
not_digits : (octet : ℕ) (octets digits : List ℕ) → StandsFor (octet ∷ octets) digits → digits ≡ codes "-" → ⊥
not_digits octet octets digits h e =
    let n = even_digits (octet ∷ octets) digits h in
    let one = ap length e in
    omega (arith, n, one)

-- digits stand for one string of octets
pub one_meaning : (octets others digits : List ℕ) → StandsFor octets digits → StandsFor others digits → octets ≡ others
one_meaning [] [] digits h k = refl
one_meaning [] (x ∷ others) digits h k = absurd (not_digits x others digits k h)
one_meaning (x ∷ octets) [] digits h k = absurd (not_digits x octets digits h k)
one_meaning (x ∷ octets) (y ∷ others) digits h k = same_octets (x ∷ octets) (y ∷ others) digits h k

-- What digits stand for.

-- digits of octets stand for them, where there are some
pub stands : (octets digits : List ℕ) → false ≡ (length digits == 0) → AreHexadecimalDigits octets digits →
    StandsFor octets digits
stands [] digits some h = absurd (let none = ap length h in cc)
stands (octet ∷ octets) digits some h = h

-- what else stands for octets is digits of them
pub digits_where_stands : (octets digits : List ℕ) → digits ≢ codes "-" → StandsFor octets digits →
    AreHexadecimalDigits octets digits
digits_where_stands [] digits other h = absurd (other h)
digits_where_stands (octet ∷ octets) digits other h = h
