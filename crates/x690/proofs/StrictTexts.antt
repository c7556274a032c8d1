-- Strict texts of times, read from both ends.
use Rattle.std.proofs.Common.{◌≡◌, refl, sym, ap, ◌∙◌, ℕ, ◌≤◌, List, [], ◌∷◌, ◌++◌, inl, inr, ◌↔◌, append_assoc, drop, get_or, arith}
use Rattle.std.specs.Char.{is_ascii_digit}
use Rattle.x690.specs.Sets.{AllIn}
use Rattle.x690.specs.Times.{z_text, IsStrictFraction, IsStrictMoment}
use Rattle.x690.specs.declared.times.Moment.{Moment}

-- two strings with one more octet behind each are the same only where these are
pub same_ends : (xs ys : List ℕ) (x y : ℕ) → xs ++ x ∷ [] ≡ ys ++ y ∷ [] → (xs ≡ ys) × (x ≡ y)
same_ends [] [] x y e = (refl, cc (e))
same_ends [] (b ∷ []) x y e = absurd (cc (e))
same_ends [] (b ∷ c ∷ ys) x y e = absurd (cc (e))
same_ends (a ∷ []) [] x y e = absurd (cc (e))
same_ends (a ∷ c ∷ xs) [] x y e = absurd (cc (e))
same_ends (a ∷ xs) (b ∷ ys) x y e =
    let tails : xs ++ x ∷ [] ≡ ys ++ y ∷ [] = cc (e) in
    let heads : a ≡ b = cc (e) in
    let r = same_ends xs ys x y tails in
    (ap (λ (zs : List ℕ). a ∷ zs) r.0 ∙ ap (λ (k : ℕ). k ∷ ys) heads, r.1)

-- the last two octets of a string
pub two_behind : (text before digits : List ℕ) (zone last : ℕ) → text ≡ before ++ zone ∷ [] →
    before ≡ digits ++ last ∷ [] → text ≡ digits ++ last ∷ zone ∷ []
two_behind text before digits zone last e f =
    e ∙ ap (λ (zs : List ℕ). zs ++ zone ∷ []) f ∙ append_assoc digits (last ∷ []) (zone ∷ [])

-- and those of another writing of it
pub same_two : (text before digits others : List ℕ) (zone last other end : ℕ) → text ≡ before ++ zone ∷ [] →
    before ≡ digits ++ last ∷ [] → text ≡ others ++ other ∷ end ∷ [] → (digits ≡ others) × (last ≡ other) × (zone ≡ end)
same_two text before digits others zone last other end e f g =
    let whole = same_ends before (others ++ other ∷ []) zone end
    (sym e ∙ g ∙ sym (append_assoc others (other ∷ []) (end ∷ []))) in
    let inner = same_ends digits others last other (sym f ∙ whole.0) in
    (inner.0, inner.1, whole.1)

-- what follows the first octet of both
tails : (text rest fraction digits : List ℕ) (last : ℕ) → text ≡ 46 ∷ rest → text ≡ fraction ++ z_text →
    fraction ≡ 46 ∷ digits ++ last ∷ [] → rest ≡ digits ++ last ∷ z_text
tails text rest fraction digits last e f is =
    let whole : 46 ∷ rest ≡ 46 ∷ ((digits ++ last ∷ []) ++ z_text) = sym e ∙ f ∙ ap (λ (o : List ℕ). o ++ z_text) is in
    ap (λ (o : List ℕ). drop 1 o) whole ∙ append_assoc digits (last ∷ []) z_text

-- a fraction that is none has no point
none_with_point : (text rest fraction : List ℕ) → text ≡ 46 ∷ rest → text ≡ fraction ++ z_text → fraction ≡ [] → ⊥
none_with_point text rest fraction e f none =
    let first : 46 ≡ 90 =
    ap (λ (o : List ℕ). get_or o 0 0) (sym e ∙ f ∙ ap (λ (o : List ℕ). o ++ z_text) none) in
    omega (arith, first)

pub point_told : (text rest : List ℕ) → text ≡ 46 ∷ rest →
    ((digits : List ℕ) × (last : ℕ) × AllIn is_ascii_digit digits × (49 ≤ last) × (last ≤ 57) ×
    (rest ≡ digits ++ last ∷ z_text)) ↔
    ((fraction : List ℕ) × IsStrictFraction fraction × (text ≡ fraction ++ z_text))
point_told text rest e = (
  λ d. (
    46 ∷ d.0 ++ d.1 ∷ [],
    inr (d.0, d.1, d.2, d.3, d.4, refl),
    e ∙ ap (λ (o : List ℕ). 46 ∷ o) (d.5 ∙ sym (append_assoc d.0 (d.1 ∷ []) z_text)),
  ),
  λ f. elim f.1 [
    | inl none ↦ absurd (none_with_point text rest f.0 e f.2 none)
    | inr d ↦ (d.0, d.1, d.2, d.3, d.4, tails text rest f.0 d.0 d.1 e f.2 d.5)
  ],
)

-- a strict time is one in each year
pub in_year : (year : ℕ) (m : Moment) → IsStrictMoment m → IsStrictMoment (record m { year = year })
in_year year m h = record {
  range = record {
    month = h.range.month;
    day = h.range.day;
    hour = h.range.hour;
    minute = h.range.minute;
    second = h.range.second;
  };
  month = h.month;
  day = h.day;
  zone = h.zone;
}
