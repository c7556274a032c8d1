-- Laws of the strict texts of times.
use Rattle.std.proofs.Common.{◌≡◌, ◌≢◌, ◌⊎◌, ℕ, zero, suc, ◌+◌, ◌-◌, ◌/◌, ◌%◌, ◌<◌, ◌≤◌, ◌==◌, Bool, true, false}
use Rattle.std.proofs.Common.{List, []}
use Rattle.std.proofs.Common.{◌∷◌, ◌++◌, inl, inr, length, length-append, decimal, Option, Some, None, IsTrue}
use Rattle.std.proofs.Common.{if◌then◌else◌, nat_lt, nat_eq, get_or, append_assoc, refl, ap, subst, sym, ◌∙◌, arith}
use Rattle.std.specs.List.{list_all, list_any}
use Rattle.std.specs.Int.{is_in_range}
use Rattle.std.specs.Fmt.{digits_onto, digit_glyph, digits}
use Rattle.std.proofs.lemmas.Bool.{and_parts, cases_eq}
use Rattle.std.proofs.lemmas.Bool.Decides.{nat_tests}
use Rattle.std.proofs.lemmas.List.Folds.{list_all-append}
use Rattle.std.proofs.lemmas.Option.{slice_get_read}
use Rattle.std.proofs.Math.Seq.{get_or-append_seam}
use Rattle.x690.specs.Octets.{IsOctets}
use Rattle.x690.specs.Sets.{is_visible}
use Rattle.x690.specs.Times.{z_text, to_minute, EndsInZ, HasComma, HasDigitBefore, HasPoint, SaysFraction}
use Rattle.x690.specs.Times.{SaysUtcTime, SaysGeneralizedTime}
use Rattle.x690.specs.Times.{fraction_text, utc_time_text, generalized_time_text, MostMilliseconds, FitsText}
use Rattle.x690.specs.Times.{FitsUtcTime, FitsGeneralizedTime, IsStrictMoment, IsStrictUtcTime, IsStrictGeneralizedTime}
use Rattle.x690.specs.Times.{digits as decimal_digits}
use Rattle.x690.specs.declared.times.Moment.{Moment}

-- Strict texts say their fields.

-- The text of a strict UTCTime says its fields.
pub utc_says : (m : Moment) → IsStrictUtcTime m → SaysUtcTime (utc_time_text m) m
utc_says m s = record {
  year = omega (arith, s.1);
  range = s.0.range;
  end = decimal_digits 2 m.second ++ z_text;
  text_is = refl;
  says = inr (z_text, refl, inl (refl, s.0.zone), s.2);
}

-- milliseconds in one digit, in two and in three
pub one_digit : (n : ℕ) → n ≢ 0 → n ≤ 999 → n % 100 ≡ 0 → fraction_text (Some n) ≡ 46 ∷ decimal_digits 1 (n / 100)
one_digit n s h e = grind (arith, nat_tests)

-- A fraction whose last digit alone is 0 is written in two digits.
pub two_digits : (n : ℕ) → n ≢ 0 → n ≤ 999 → n % 100 ≢ 0 → n % 10 ≡ 0 →
    fraction_text (Some n) ≡ 46 ∷ decimal_digits 2 (n / 10)
two_digits n s h d e = grind (arith, nat_tests)

-- One whose last digit is not 0 is written in three.
pub three_digits : (n : ℕ) → n ≢ 0 → n ≤ 999 → n % 100 ≢ 0 → n % 10 ≢ 0 →
    fraction_text (Some n) ≡ 46 ∷ decimal_digits 3 n
three_digits n s h d e = grind (arith, nat_tests)

fraction_says : (m : Option ℕ) → MostMilliseconds 999 m → m ≢ Some 0 → SaysFraction (fraction_text m) m
fraction_says None most some = refl
fraction_says (Some n) most some =
    let positive : n ≢ 0 = λ e. some (ap Some e) in
    elim (cases_eq (n % 100) 0) as (λ _. SaysFraction (fraction_text (Some n)) (Some n)) [
      | inl d ↦ (46, 0, n / 100, inl refl, omega arith, omega arith, one_digit n positive most d, omega arith)
      | inr d ↦ elim (cases_eq (n % 10) 0) as (λ _. SaysFraction (fraction_text (Some n)) (Some n)) [
        | inl e ↦ (46, 1, n / 10, inl refl, omega arith, omega arith, two_digits n positive most d e, omega arith)
        | inr e ↦ (46, 2, n, inl refl, omega arith, omega arith, three_digits n positive most d e, omega arith)
      ]
    ]

-- The text of a strict GeneralizedTime says its fields.
pub generalized_says : (m : Moment) → IsStrictGeneralizedTime m → SaysGeneralizedTime (generalized_time_text m) m
generalized_says m s = record {
  year = omega (arith, s.1);
  range = s.0.range;
  end = decimal_digits 2 m.second ++ fraction_text m.millisecond ++ z_text;
  text_is = refl;
  says =
      inr (fraction_text m.millisecond, z_text, refl, fraction_says m.millisecond s.2 s.3, inr (inl (refl, s.0.zone)));
}

-- Strict fields fit.

moment_fits : (greatest_year : ℕ) (m : Moment) → IsStrictMoment m → m.year ≤ greatest_year →
    MostMilliseconds 999 m.millisecond → FitsText greatest_year m
moment_fits greatest_year m s y f = record {
  year = y;
  month = omega (arith, s.range.month);
  day = omega (arith, s.range.day);
  hour = omega (arith, s.range.hour);
  minute = omega (arith, s.range.minute);
  second = omega (arith, s.range.second);
  millisecond = f;
  zone = inl s.zone;
}

-- The fields of a strict UTCTime fit its text.
pub utc_fits : (m : Moment) → IsStrictUtcTime m → FitsUtcTime m
utc_fits m s = moment_fits 99 m s.0 s.1 (subst (MostMilliseconds 999) (sym s.2) tt)

-- Those of a strict GeneralizedTime fit its text.
pub generalized_fits : (m : Moment) → IsStrictGeneralizedTime m → FitsGeneralizedTime m
generalized_fits m s = moment_fits 9999 m s.0 s.1 s.2

-- Strict texts are octets from the point to Z.

-- so there is no comma among them, which is the octet before the minus
abbrev is_inner : ℕ → Bool
is_inner = is_in_range 46 90

abbrev AreInner : List ℕ → Type 0
AreInner octets = IsTrue (list_all is_inner octets)

digit_inner : (n : ℕ) → is_inner (48 + n % 10) ≡ true
digit_inner n = grind (arith, nat_tests)

glyph_inner : (n : ℕ) → is_inner (digit_glyph false (n % 10)) ≡ true
glyph_inner n = grind (arith, nat_tests)

inner_append : (x y : List ℕ) → AreInner x → AreInner y → AreInner (x ++ y)
inner_append x y a b = rw (list_all-append, a) b

onto_inner : (k n : ℕ) (behind : List ℕ) → AreInner behind → AreInner (digits_onto k 10 false n behind)
onto_inner zero n behind a = a
onto_inner (suc k) n behind a =
    let more : AreInner (digit_glyph false (n % 10) ∷ behind) = rw (glyph_inner n) a in
    elim (n / 10 == 0) as (λ b. AreInner (if b then digit_glyph false (n % 10) ∷ behind
    else digits_onto k 10 false (n / 10) (digit_glyph false (n % 10) ∷ behind))) [
      | true ↦ more
      | false ↦ onto_inner k (n / 10) (digit_glyph false (n % 10) ∷ behind) more
    ]

decimal_inner : (n : ℕ) → AreInner (decimal n)
unfolding digits
decimal_inner n = onto_inner 64 n [] refl

fraction_inner : (m : Option ℕ) → AreInner (fraction_text m)
fraction_inner None = refl
fraction_inner (Some n) =
    chosen (n == 0) [] _ refl (chosen (nat_lt 999 n) (46 ∷ decimal n) _ (decimal_inner n)
    (chosen (n % 100 == 0) (46 ∷ decimal_digits 1 (n / 100)) _ (simp digit_inner)
    (chosen (n % 10 == 0) (46 ∷ decimal_digits 2 (n / 10)) (46 ∷ decimal_digits 3 n) (simp digit_inner)
    (simp digit_inner))))
  where
    chosen : (b : Bool) (x y : List ℕ) → AreInner x → AreInner y → AreInner (if b then x else y)
    chosen true x y a b = a
    chosen false x y a b = b

utc_inner : (m : Moment) → AreInner (utc_time_text m)
utc_inner m = simp digit_inner

generalized_inner : (m : Moment) → AreInner (generalized_time_text m)
generalized_inner m =
    simp digit_inner (inner_append (fraction_text m.millisecond) z_text (fraction_inner m.millisecond) refl)

-- Such octets are from the space to 7f.

abbrev AreVisible : List ℕ → Type 0
AreVisible octets = IsTrue (list_all is_visible octets)

inner_is_visible : (n : ℕ) → is_inner n ≡ true → is_visible n ≡ true
inner_is_visible n h = grind (arith, nat_tests)

are_visible : (octets : List ℕ) → AreInner octets → AreVisible octets
are_visible [] a = refl
are_visible (x ∷ octets) a =
    let parts = and_parts (is_inner x) (list_all is_inner octets) a in
    rw (inner_is_visible x parts.0) (are_visible octets parts.1)

-- The text of a UTCTime is visible characters.
pub utc_visible : (m : Moment) → AreVisible (utc_time_text m)
utc_visible m = are_visible (utc_time_text m) (utc_inner m)

-- So is that of a GeneralizedTime.
pub generalized_visible : (m : Moment) → AreVisible (generalized_time_text m)
generalized_visible m = are_visible (generalized_time_text m) (generalized_inner m)

inner_is_octet : (n : ℕ) → is_inner n ≡ true → n < 256
inner_is_octet n h = grind (arith, nat_tests)

are_octets : (octets : List ℕ) → AreInner octets → IsOctets octets
are_octets [] a k = omega arith
are_octets (x ∷ octets) a zero = inner_is_octet x (and_parts (is_inner x) (list_all is_inner octets) a).0
are_octets (x ∷ octets) a (suc k) = are_octets octets (and_parts (is_inner x) (list_all is_inner octets) a).1 k

-- The text of a UTCTime is octets.
pub utc_octets : (m : Moment) → IsOctets (utc_time_text m)
utc_octets m = are_octets (utc_time_text m) (utc_inner m)

-- So is that of a GeneralizedTime.
pub generalized_octets : (m : Moment) → IsOctets (generalized_time_text m)
generalized_octets m = are_octets (generalized_time_text m) (generalized_inner m)

-- None of their octets is a comma.

inner_is_no_comma : (n : ℕ) → is_inner n ≡ true → nat_eq n 44 ≡ false
inner_is_no_comma n h = grind (arith, nat_tests)

have_no_comma : (octets : List ℕ) → AreInner octets → list_any (λ octet. nat_eq octet 44) octets ≡ false
have_no_comma [] a = refl
have_no_comma (x ∷ octets) a =
    let parts = and_parts (is_inner x) (list_all is_inner octets) a in
    rw (inner_is_no_comma x parts.0) (have_no_comma octets parts.1)

-- The text of a GeneralizedTime has no comma.
pub generalized_no_comma : (m : Moment) → ¬ HasComma (generalized_time_text m)
generalized_no_comma m h = let e = have_no_comma (generalized_time_text m) (generalized_inner m) in cc

-- Strict texts end in Z.

ends_in_z : (front : List ℕ) → EndsInZ (front ++ z_text)
ends_in_z front =
    let len = length-append front z_text in
    let last : length (front ++ z_text) - 1 ≡ length front = omega (arith, len) in
    slice_get_read (front ++ z_text) (length (front ++ z_text)) (length (front ++ z_text) - 1) 90 refl
    (omega (arith, len))
    (subst (λ (i : ℕ). 90 ≡ get_or (front ++ z_text) i 90) (sym last) (sym (get_or-append_seam front 90 [] 90)))

-- It ends in Z.
pub generalized_ends_in_z : (m : Moment) → EndsInZ (generalized_time_text m)
generalized_ends_in_z m =
    ends_in_z (decimal_digits 4 m.year ++ to_minute m ++ decimal_digits 2 m.second ++ fraction_text m.millisecond)

-- Strict texts are short.

-- The text of a UTCTime has 13 octets.
pub utc_length : (m : Moment) → length (utc_time_text m) ≡ 13
utc_length m = refl

fraction_length : (m : Option ℕ) → MostMilliseconds 999 m → length (fraction_text m) ≤ 4
fraction_length None h = omega arith
fraction_length (Some n) h = grind (arith, nat_tests)

-- That of a GeneralizedTime has 15 to 19.
pub generalized_length : (m : Moment) → MostMilliseconds 999 m.millisecond →
    (15 ≤ length (generalized_time_text m)) × (length (generalized_time_text m) ≤ 19)
generalized_length m h =
    let l = length-append (fraction_text m.millisecond) z_text in
    let f = fraction_length m.millisecond h in
    (omega (arith, l), omega (arith, l, f))

-- Fractions end in no 0.

-- nothing, or octets and a digit from 1 to 9
abbrev EndsInDigit : List ℕ → Type 0
EndsInDigit fraction =
    (fraction ≡ []) ⊎ ((front : List ℕ) × (digit : ℕ) × (fraction ≡ front ++ digit ∷ []) × (49 ≤ digit) × (digit ≤ 57))

some_fraction_ends : (n : ℕ) → 0 < n → n ≤ 999 → (front : List ℕ) × (digit : ℕ) ×
    (fraction_text (Some n) ≡ front ++ digit ∷ []) × (49 ≤ digit) × (digit ≤ 57)
some_fraction_ends n positive most =
    let some : n ≢ 0 = omega (arith, positive) in
    elim (cases_eq (n % 100) 0) as (λ _. (front : List ℕ) × (digit : ℕ) ×
    (fraction_text (Some n) ≡ front ++ digit ∷ []) × (49 ≤ digit) × (digit ≤ 57)) [
      | inl d ↦ (46 ∷ [], 48 + n / 100 % 10, one_digit n some most d, omega arith, omega arith)
      | inr d ↦ elim (cases_eq (n % 10) 0) as (λ _. (front : List ℕ) × (digit : ℕ) ×
          (fraction_text (Some n) ≡ front ++ digit ∷ []) × (49 ≤ digit) × (digit ≤ 57)) [
            | inl e ↦ (
              46 ∷ decimal_digits 1 (n / 10 / 10),
              48 + n / 10 % 10,
              two_digits n some most d e,
              omega arith,
              omega arith,
            )
            | inr e ↦
                (46 ∷ decimal_digits 2 (n / 10), 48 + n % 10, three_digits n some most d e, omega arith, omega arith)
          ]
    ]

digit_before : (front behind : List ℕ) (digit : ℕ) → 49 ≤ digit → digit ≤ 57 →
    HasDigitBefore (length behind) (front ++ digit ∷ behind)
digit_before front behind digit low high =
    let text = front ++ digit ∷ behind in
    let len : length text ≡ length front + suc (length behind) = length-append front (digit ∷ behind) in
    let at : length text - suc (length behind) ≡ length front = omega (arith, len) in (
      digit,
      slice_get_read text (length text) (length text - suc (length behind)) digit refl (omega (arith, len))
          (subst (λ (i : ℕ). digit ≡ get_or text i digit) (sym at) (sym (get_or-append_seam front digit behind digit))),
      low,
      high,
    )

-- The last octet of the fraction of 1 to 999 milliseconds is a digit from 1 to 9.
pub fraction_ends_in_digit : (n : ℕ) → 0 < n → n ≤ 999 → HasDigitBefore 0 (fraction_text (Some n))
fraction_ends_in_digit n positive most =
    let found = some_fraction_ends n positive most in
    subst (HasDigitBefore 0) (sym found.2) (digit_before found.0 [] found.1 found.3 found.4)

fraction_ends : (m : Option ℕ) → MostMilliseconds 999 m → EndsInDigit (fraction_text m)
fraction_ends None most = inl refl
fraction_ends (Some n) most = elim (cases_eq n 0) as (λ _. EndsInDigit (fraction_text (Some n))) [
  | inl e ↦ inl (ap (λ (k : ℕ). fraction_text (Some k)) e)
  | inr e ↦ inr (some_fraction_ends n (omega (arith, e)) most)
]

-- the octets before the fraction
abbrev before_fraction : Moment → List ℕ
before_fraction m = decimal_digits 4 m.year ++ to_minute m ++ decimal_digits 2 m.second

digit_is_no_point : (n : ℕ) → nat_eq (48 + n % 10) 46 ≡ false
digit_is_no_point n = grind (arith, nat_tests)

no_point : (m : Moment) → list_any (λ octet. nat_eq octet 46) (before_fraction m ++ z_text) ≡ false
no_point m = simp digit_is_no_point

text_ends : (m : Moment) (fraction : List ℕ) → EndsInDigit fraction →
    HasPoint (before_fraction m ++ fraction ++ z_text) →
    HasDigitBefore 1 (before_fraction m ++ fraction ++ z_text)
text_ends m fraction (inl e) point =
    let none = no_point m in
    let some = subst (λ (xs : List ℕ). HasPoint (before_fraction m ++ xs ++ z_text)) e point in
    absurd cc
text_ends m fraction (inr found) point =
    let front = found.0 in
    let digit = found.1 in
    let is : before_fraction m ++ fraction ++ z_text ≡ (before_fraction m ++ front) ++ digit ∷ z_text =
    ap (λ (xs : List ℕ). before_fraction m ++ xs ++ z_text) found.2
    ∙ ap (λ (xs : List ℕ). before_fraction m ++ xs) (append_assoc front (digit ∷ []) z_text)
    ∙ sym (append_assoc (before_fraction m) front (digit ∷ z_text)) in
    subst (HasDigitBefore 1) (sym is) (digit_before (before_fraction m ++ front) z_text digit found.3 found.4)

-- Where there is a point in the text of a GeneralizedTime, the octet before the Z is a digit from 1 to 9.
pub generalized_omits_zeros : (m : Moment) → MostMilliseconds 999 m.millisecond → HasPoint (generalized_time_text m) →
    HasDigitBefore 1 (generalized_time_text m)
generalized_omits_zeros m most = text_ends m (fraction_text m.millisecond) (fraction_ends m.millisecond most)
