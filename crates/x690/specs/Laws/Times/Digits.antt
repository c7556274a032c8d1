-- Laws of numbers in so many digits.
use Rattle.std.proofs.Common.{◌≡◌, ◌≢◌, ℕ, zero, suc, ◌+◌, ◌*◌, ◌-◌, ◌/◌, ◌%◌, ◌^◌, ◌<◌, List, [], ◌∷◌, ◌++◌}
use Rattle.std.proofs.Common.{append_assoc, refl, sym, ap, ◌∙◌, arith}
use Rattle.std.proofs.Math.Nat.{pow-zero, pow-succ', div-one, div-div-eq-div-mul, add-suc, add-zero}
use Rattle.std.proofs.lemmas.List.{append-nil}
use Rattle.x690.specs.Times.{digits}

-- lists that are one have one first item
pub same_first : (text x y : List ℕ) (p q : ℕ) → text ≡ p ∷ x → text ≡ q ∷ y → p ≡ q
same_first text x y p q d e = cc

-- the last digit stands between those before it and what follows
digits_before_last : (width n : ℕ) (rest : List ℕ) →
    digits (suc width) n ++ rest ≡ digits width (n / 10) ++ (48 + n % 10) ∷ rest
digits_before_last width n rest = append_assoc (digits width (n / 10)) ((48 + n % 10) ∷ []) rest

-- so many digits in front are those of one number, and one text follows them
pub digits_part : (width a b : ℕ) (x y : List ℕ) → digits width a ++ x ≡ digits width b ++ y →
    (digits width a ≡ digits width b) × (x ≡ y)
digits_part zero a b x y e = (refl, e)
digits_part (suc width) a b x y e =
    let moved = sym (digits_before_last width a x) ∙ e ∙ digits_before_last width b y in
    let r = digits_part width (a / 10) (b / 10) ((48 + a % 10) ∷ x) ((48 + b % 10) ∷ y) moved in
    let last : a % 10 ≡ b % 10 =
    omega (arith, same_first ((48 + a % 10) ∷ x) x y (48 + a % 10) (48 + b % 10) refl r.1) in (
      ap (λ (ys : List ℕ). ys ++ (48 + a % 10) ∷ []) r.0 ∙ ap (λ (k : ℕ). digits width (b / 10) ++ (48 + k) ∷ []) last,
      cc (r.1),
    )

-- Numbers with the same digits, as many as hold them, are the same.
pub same_from_digits : (width a b : ℕ) → a < 10 ^ width → b < 10 ^ width → digits width a ≡ digits width b → a ≡ b
same_from_digits zero a b h k e = omega (arith, pow-zero 10)
same_from_digits (suc width) a b h k e =
    let moved = sym (digits_before_last width a []) ∙ ap (λ (ys : List ℕ). ys ++ []) e
    ∙ digits_before_last width b [] in
    let parts = digits_part width (a / 10) (b / 10) ((48 + a % 10) ∷ []) ((48 + b % 10) ∷ []) moved in
    let p = pow-succ' 10 width in
    let high = same_from_digits width (a / 10) (b / 10) (omega arith) (omega arith) parts.0 in
    omega (arith, same_first ((48 + a % 10) ∷ []) [] [] (48 + a % 10) (48 + b % 10) refl parts.1)

-- one number stands in so many digits in front, and one text follows it
pub digits_front : (width a b : ℕ) (x y : List ℕ) → a < 10 ^ width → b < 10 ^ width →
    digits width a ++ x ≡ digits width b ++ y → (a ≡ b) × (x ≡ y)
digits_front width a b x y h k e =
    let parts = digits_part width a b x y e in
    (same_from_digits width a b h k parts.0, parts.1)

-- those before the last so many digits, and these
pub digits_split : (before last n : ℕ) → digits (before + last) n ≡ digits before (n / 10 ^ last) ++ digits last n
digits_split before zero n = rw (add-zero, pow-zero, div-one) (sym (append-nil (digits before n)))
digits_split before (suc last) n =
    rw (add-suc) (ap (λ (ys : List ℕ). ys ++ (48 + n % 10) ∷ []) (digits_split before last (n / 10))
    ∙ append_assoc (digits before (n / 10 / 10 ^ last)) (digits last (n / 10)) ((48 + n % 10) ∷ [])
    ∙ ap (λ (k : ℕ). digits before k ++ digits (suc last) n)
    (div-div-eq-div-mul n 10 (10 ^ last) ∙ ap (λ (k : ℕ). n / k) (sym (pow-succ' 10 last))))

-- one more digit behind others
pub digit_more : (width n d : ℕ) (text behind rest : List ℕ) → d < 10 → text ≡ digits width n ++ behind →
    behind ≡ digits 1 d ++ rest → text ≡ digits (suc width) (10 * n + d) ++ rest
digit_more width n d text behind rest h e f =
    let high : n ≡ (10 * n + d) / 10 = omega arith in
    let low : d % 10 ≡ (10 * n + d) % 10 = omega arith in
    e ∙ ap (λ (ys : List ℕ). digits width n ++ ys) f
    ∙ ap (λ (k : ℕ). digits width k ++ (48 + d % 10) ∷ rest) high
    ∙ ap (λ (k : ℕ). digits width ((10 * n + d) / 10) ++ (48 + k) ∷ rest) low
    ∙ sym (digits_before_last width (10 * n + d) rest)

-- no digit is in front
abbrev pub HasNoDigit : List ℕ → Type 0
HasNoDigit text = (d : ℕ) (rest : List ℕ) → d < 10 → text ≢ digits 1 d ++ rest

-- where more digits are in front, those behind the fewer begin with one
pub more_digits : (few more a b : ℕ) (x y : List ℕ) → few < more → HasNoDigit x → digits few a ++ x ≢ digits more b ++ y
more_digits few more a b x y h none e =
    let count = more - few - 1 in
    let sum : more ≡ few + (1 + count) = omega arith in
    let whole = e ∙ ap (λ (k : ℕ). digits k b ++ y) sum ∙ ap (λ (ys : List ℕ). ys ++ y) (digits_split few (1 + count) b)
    ∙ append_assoc (digits few (b / 10 ^ (1 + count))) (digits (1 + count) b) y in
    let behind = (digits_part few a (b / 10 ^ (1 + count)) x (digits (1 + count) b ++ y) whole).1 in
    let one = ap (λ (ys : List ℕ). ys ++ y) (digits_split 1 count b) in
    let d = b / 10 ^ count % 10 in
    let same : d ≡ d % 10 = omega arith in
    none d (digits count b ++ y) (omega arith) (behind ∙ one ∙ ap (λ (k : ℕ). (48 + k) ∷ digits count b ++ y) same)
