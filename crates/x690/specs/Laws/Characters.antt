-- Laws of characters in octets: UTF-16 and UCS-4 are codes of characters, and these are codes of texts, as UTF-8 is.
use Rattle.std.proofs.Common.{◌≡◌, ℕ, ◌+◌, ◌-◌, ◌*◌, ◌/◌, ◌%◌, ◌<◌, ◌≤◌, true, List, [], ◌∷◌, ◌++◌, ◌⊎◌, length}
use Rattle.std.proofs.Common.{length-append, get_or, drop, encode_utf8_all, refl, ap, ap₂, sym, ◌∙◌, subst, arith, inl}
use Rattle.std.proofs.Common.{inr}
use Rattle.std.specs.Char.{encode_utf8, IsScalar, len_utf8}
use Rattle.std.specs.Str.{IsUtf8, all_scalars, chars}
use Rattle.std.proofs.lemmas.Bool.{and_parts, cases_lt}
use Rattle.std.proofs.lemmas.Bool.Decides.{nat_tests}
use Rattle.std.proofs.lemmas.Str.{chars-nil, length-encode, len_utf8_bounds, encode_same, encodes_same}
use lib.Utf8.{scalar, scalar_cases, encode, next}
use Rattle.x690.specs.Octets.{IsOctets}
use Rattle.x690.specs.Laws.Octets.{below_octets, octets_append}
use Rattle.x690.specs.Digits.{base_256_value}
use Rattle.x690.specs.Characters.{unit_octets, utf16_octets_of, ucs4_octets_of, code_of, utf16_octets, ucs4_octets}
use Rattle.x690.specs.Characters.{IsCode, IsCharacterCode}

scalar_below : (c : ℕ) → IsScalar c → c < 1114112
scalar_below c s = elim (scalar_cases c s) [ inl h ↦ omega arith | inr h ↦ h.1 ]

-- Texts in a code of characters.

module _ (octets_of : ℕ → List ℕ) (is : IsCharacterCode octets_of) where
  -- each character has octets
  pub character_some : (c : ℕ) → 0 < length (octets_of c)
  character_some c = let l = len_utf8_bounds c in omega (arith, is.utf8 c, length-encode c, l.0)

  no_character : (c : ℕ) (rest : List ℕ) → [] ≡ octets_of c ++ rest → ⊥
  no_character c rest e = omega (arith, character_some c, ap length e, length-append (octets_of c) rest)

  text_one : (cs ds : List ℕ) → all_scalars cs ≡ true → all_scalars ds ≡ true →
      code_of octets_of cs ≡ code_of octets_of ds → cs ≡ ds
  text_one [] [] s t e = refl
  text_one [] (d ∷ ds) s t e = absurd (no_character d (code_of octets_of ds) e)
  text_one (c ∷ cs) [] s t e = absurd (no_character c (code_of octets_of cs) (sym e))
  text_one (c ∷ cs) (d ∷ ds) s t e =
      let p = and_parts (scalar c) (all_scalars cs) s in
      let q = and_parts (scalar d) (all_scalars ds) t in
      let o = is.one c d (code_of octets_of cs) (code_of octets_of ds) p.0 q.0 e in
      ap₂ (λ (x : ℕ) (xs : List ℕ). x ∷ xs) o.0 (text_one cs ds p.1 q.1 o.1)

  text_octets : (cs : List ℕ) → all_scalars cs ≡ true → IsOctets (code_of octets_of cs)
  text_octets [] s = below_octets [] tt
  text_octets (c ∷ cs) s =
      let p = and_parts (scalar c) (all_scalars cs) s in
      octets_append (octets_of c) (code_of octets_of cs) (is.octets c p.0) (text_octets cs p.1)

  -- A code of characters makes a code of texts.
  pub text_code : IsCode (code_of octets_of)
  text_code = record { one = text_one; octets = text_octets }

-- a text that is empty has no octets
pub code_empty : (octets_of : ℕ → List ℕ) (text : List ℕ) → length text ≡ 0 → code_of octets_of (chars text) ≡ []
code_empty octets_of [] e = ap (code_of octets_of) chars-nil
code_empty octets_of (octet ∷ text) e = absurd (omega arith)

-- UTF-16.

one_unit : (c : ℕ) → c < 65536 → utf16_octets_of c ≡ unit_octets c
one_unit c h = grind (arith, nat_tests)

-- the units of a pair
abbrev high_unit : ℕ → ℕ
high_unit c = 55296 + (c - 65536) / 1024

abbrev low_unit : ℕ → ℕ
low_unit c = 56320 + (c - 65536) % 1024

two_units : (c : ℕ) → 65536 ≤ c → utf16_octets_of c ≡ unit_octets (high_unit c) ++ unit_octets (low_unit c)
two_units c h = grind (arith, nat_tests)

front_unit : (u v : ℕ) (rest tail : List ℕ) → unit_octets u ++ rest ≡ unit_octets v ++ tail → (u ≡ v) × (rest ≡ tail)
front_unit u v rest tail e =
    let p = ap (λ (xs : List ℕ). get_or xs 0 0) e in
    let q = ap (λ (xs : List ℕ). get_or xs 1 0) e in
    (omega arith, ap (λ (xs : List ℕ). drop 2 xs) e)

-- no character is the first unit of a pair
no_surrogate : (c d : ℕ) → IsScalar c → IsScalar d → 65536 ≤ d → c ≡ high_unit d → ⊥
no_surrogate c d s t k e =
    let b = scalar_below d t in
    elim (scalar_cases c s) [ inl h ↦ omega arith | inr h ↦ omega (arith, h.0) ]

pair_one : (c d : ℕ) → 65536 ≤ c → 65536 ≤ d → high_unit c ≡ high_unit d → low_unit c ≡ low_unit d → c ≡ d
pair_one c d h k e f = omega arith

utf16_one : (c d : ℕ) (rest tail : List ℕ) → IsScalar c → IsScalar d →
    utf16_octets_of c ++ rest ≡ utf16_octets_of d ++ tail → (c ≡ d) × (rest ≡ tail)
utf16_one c d rest tail s t e = by_size (cases_lt c 65536) (cases_lt d 65536)
  where
    same : (x y : List ℕ) → utf16_octets_of c ≡ x → utf16_octets_of d ≡ y → x ++ rest ≡ y ++ tail
    same x y p q = ap (λ (xs : List ℕ). xs ++ rest) (sym p) ∙ e ∙ ap (λ (xs : List ℕ). xs ++ tail) q

    by_size : (c < 65536) ⊎ (65536 ≤ c) → (d < 65536) ⊎ (65536 ≤ d) → (c ≡ d) × (rest ≡ tail)
    by_size (inl h) (inl k) = front_unit c d rest tail (same _ _ (one_unit c h) (one_unit d k))
    by_size (inl h) (inr k) =
        let u = front_unit c (high_unit d) rest (unit_octets (low_unit d) ++ tail)
        (same _ _ (one_unit c h) (two_units d k)) in
        absurd (no_surrogate c d s t k u.0)
    by_size (inr h) (inl k) =
        let u = front_unit (high_unit c) d (unit_octets (low_unit c) ++ rest) tail
        (same _ _ (two_units c h) (one_unit d k)) in
        absurd (no_surrogate d c t s h (sym u.0))
    by_size (inr h) (inr k) =
        let u = front_unit (high_unit c) (high_unit d) (unit_octets (low_unit c) ++ rest)
        (unit_octets (low_unit d) ++ tail) (same _ _ (two_units c h) (two_units d k)) in
        let v = front_unit (low_unit c) (low_unit d) rest tail u.1 in
        (pair_one c d h k u.0 v.0, v.1)

unit_is_octets : (unit : ℕ) → unit < 65536 → IsOctets (unit_octets unit)
unit_is_octets unit h = below_octets (unit_octets unit) (omega arith, (omega arith, tt))

utf16_are : (c : ℕ) → IsScalar c → IsOctets (utf16_octets_of c)
utf16_are c s = elim (cases_lt c 65536) [
  | inl h ↦ subst IsOctets (sym (one_unit c h)) (unit_is_octets c h)
  | inr h ↦
      let b = scalar_below c s in
      subst IsOctets (sym (two_units c h)) (octets_append (unit_octets (high_unit c)) (unit_octets (low_unit c))
      (unit_is_octets (high_unit c) (omega arith)) (unit_is_octets (low_unit c) (omega arith)))
]

utf16_few : (c : ℕ) → length (utf16_octets_of c) ≤ 4
utf16_few c = elim (cases_lt c 65536) [
  | inl h ↦ omega (arith, ap length (one_unit c h))
  | inr h ↦ omega (arith, ap length (two_units c h))
]

three_at_most : (c : ℕ) → c < 65536 → len_utf8 c ≤ 3
three_at_most c h = grind (arith, nat_tests)

utf16_utf8 : (c : ℕ) → 2 * length (encode_utf8 c) ≤ 3 * length (utf16_octets_of c)
utf16_utf8 c = elim (cases_lt c 65536) [
  | inl h ↦ omega (arith, ap length (one_unit c h), length-encode c, three_at_most c h)
  | inr h ↦ let l = len_utf8_bounds c in omega (arith, ap length (two_units c h), length-encode c, l.1)
]

-- UTF-16 is a code of characters.
pub utf16_code : IsCharacterCode utf16_octets_of
utf16_code = record { one = utf16_one; octets = utf16_are; few = utf16_few; utf8 = utf16_utf8 }

-- It is a code of texts.
pub utf16_is_code : IsCode utf16_octets
utf16_is_code = text_code utf16_octets_of utf16_code

-- UCS-4.

same_number : (c d : ℕ) → c / 16777216 ≡ d / 16777216 → c / 65536 % 256 ≡ d / 65536 % 256 →
    c / 256 % 256 ≡ d / 256 % 256 → c % 256 ≡ d % 256 → c ≡ d
same_number c d p q r s = omega arith

ucs4_one : (c d : ℕ) (rest tail : List ℕ) → IsScalar c → IsScalar d →
    ucs4_octets_of c ++ rest ≡ ucs4_octets_of d ++ tail → (c ≡ d) × (rest ≡ tail)
ucs4_one c d rest tail s t e =
    let octet = λ (k : ℕ). ap (λ (xs : List ℕ). get_or xs k 0) e in
    (same_number c d (octet 0) (octet 1) (octet 2) (octet 3), ap (λ (xs : List ℕ). drop 4 xs) e)

ucs4_are : (c : ℕ) → IsScalar c → IsOctets (ucs4_octets_of c)
ucs4_are c s =
    let b = scalar_below c s in
    below_octets (ucs4_octets_of c) (omega arith, (omega arith, (omega arith, (omega arith, tt))))

ucs4_utf8 : (c : ℕ) → 2 * length (encode_utf8 c) ≤ 3 * length (ucs4_octets_of c)
ucs4_utf8 c = let l = len_utf8_bounds c in omega (arith, length-encode c, l.1)

-- UCS-4 is a code of characters.
pub ucs4_code : IsCharacterCode ucs4_octets_of
ucs4_code = record { one = ucs4_one; octets = ucs4_are; few = λ c. omega arith; utf8 = ucs4_utf8 }

-- It is a code of texts.
pub ucs4_is_code : IsCode ucs4_octets
ucs4_is_code = text_code ucs4_octets_of ucs4_code

-- UTF-8.

one_octet : (c : ℕ) → c < 128 → encode c ≡ c ∷ []
unfolding encode
one_octet c h = grind (arith, nat_tests)

two_octets : (c : ℕ) → 128 ≤ c → c < 2048 → encode c ≡ (192 + c / 64) ∷ next c ∷ []
unfolding encode
two_octets c l h = grind (arith, nat_tests)

three_octets : (c : ℕ) → 2048 ≤ c → c < 65536 → encode c ≡ (224 + c / 4096) ∷ next (c / 64) ∷ next c ∷ []
unfolding encode
three_octets c l h = grind (arith, nat_tests)

four_octets : (c : ℕ) → 65536 ≤ c → encode c ≡ (240 + c / 262144) ∷ next (c / 4096) ∷ next (c / 64) ∷ next c ∷ []
unfolding encode
four_octets c l = grind (arith, nat_tests)

next_below : (bits : ℕ) → next bits < 256
next_below bits = omega arith

utf8_are : (c : ℕ) → IsScalar c → IsOctets (encode c)
utf8_are c s = by_size (cases_lt c 128) (cases_lt c 2048) (cases_lt c 65536)
  where
    by_size : (c < 128) ⊎ (128 ≤ c) → (c < 2048) ⊎ (2048 ≤ c) → (c < 65536) ⊎ (65536 ≤ c) → IsOctets (encode c)
    by_size (inl h) m n = subst IsOctets (sym (one_octet c h)) (below_octets (c ∷ []) (omega arith, tt))
    by_size (inr l) (inl h) n = subst IsOctets (sym (two_octets c l h))
        (below_octets ((192 + c / 64) ∷ next c ∷ []) (omega arith, (next_below c, tt)))
    by_size (inr l) (inr m) (inl h) =
        subst IsOctets (sym (three_octets c m h)) (below_octets ((224 + c / 4096) ∷ next (c / 64) ∷ next c ∷ []) (
          omega arith,
          (next_below (c / 64), (next_below c, tt)),
        ))
    by_size (inr l) (inr m) (inr n) =
        let b = scalar_below c s in
        subst IsOctets (sym (four_octets c n))
        (below_octets ((240 + c / 262144) ∷ next (c / 4096) ∷ next (c / 64) ∷ next c ∷ []) (
          omega arith,
          (next_below (c / 4096), (next_below (c / 64), (next_below c, tt))),
        ))

utf8_code : IsCharacterCode encode_utf8
utf8_code = record {
  one = λ c d rest tail s t e. encode_same c d rest tail e;
  octets = utf8_are;
  few = λ c. let l = len_utf8_bounds c in omega (arith, length-encode c, l.1);
  utf8 = λ c. omega arith;
}

-- std's UTF-8 of a text is that of its characters, in their order
utf8_code_of : (cs : List ℕ) → code_of encode_utf8 cs ≡ encode_utf8_all cs
utf8_code_of [] = refl
utf8_code_of (c ∷ cs) = ap (λ (xs : List ℕ). encode_utf8 c ++ xs) (utf8_code_of cs)

-- UTF-8 is a code of texts.
pub utf8_is_code : IsCode encode_utf8_all
utf8_is_code = record {
  one = λ cs ds s t e. encodes_same cs ds e;
  octets = λ cs s. subst IsOctets (utf8_code_of cs) (text_octets encode_utf8 utf8_code cs s);
}

-- a text in UTF-8 is octets
pub utf8_octets : (octets : List ℕ) → IsUtf8 octets → IsOctets octets
utf8_octets octets u = subst IsOctets u.1.1 (utf8_is_code.octets u.0 u.1.0)

-- The numbers that octets are.

-- Below 2^16 the two octets of a character by UTF-16 are its number.
pub utf16_number : (c : ℕ) → c < 65536 → (length (utf16_octets_of c) ≡ 2) × (base_256_value (utf16_octets_of c) ≡ c)
utf16_number c h =
    subst (λ (xs : List ℕ). (length xs ≡ 2) × (base_256_value xs ≡ c)) (sym (one_unit c h)) (refl, omega arith)

-- The four octets of a character by UCS-4 are its number.
pub ucs4_number : (c : ℕ) → (length (ucs4_octets_of c) ≡ 4) × (base_256_value (ucs4_octets_of c) ≡ c)
ucs4_number c = (refl, omega arith)
