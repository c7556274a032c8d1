-- Digits and first octets written into places.
use Rattle.std.proofs.Common.{◌≡◌, ℕ, ◌+◌, ◌/◌, ◌%◌, ◌<◌, ◌≤◌, List, [], ◌∷◌, ◌++◌, length, map, take, drop, refl, sym}
use Rattle.std.proofs.Common.{ap, ◌∙◌, arith, inl, inr, append_assoc, length-append, length-drop, zero-add, append-nil}
use Rattle.std.proofs.Common.{drop-drop}
use Rattle.std.proofs.Math.ListN.{set, length-set}
use Rattle.std.proofs.Math.Seq.{take-append-add}
use Rattle.std.proofs.Math.Nat.{pow-zero}
use Rattle.std.specs.Int.Digits.{digits_of}
use Rattle.std.proofs.lemmas.Bool.{cases_lt}
use Rattle.std.proofs.lemmas.Int.Digits.{digits_of_step, length-digits_of_step, length-digits_of-le}
use Rattle.std.proofs.lemmas.List.{map_push, drop-set, drop-set-lt, take_more_set, drop_all, drop_at, take_all}
use Rattle.std.proofs.lemmas.List.{length-take-le, length-take, take-append-le}
use Rattle.std.proofs.lemmas.Slice.{take-put_mid, drop-put_mid}
use borrow.Rule.Slice.PartMut.{put_mid, mid_of}

-- a number with digits is not 0
some_number : (base n : ℕ) → 2 ≤ base → 1 ≤ length (digits_of base n) → 0 < n
some_number base n two some = elim (cases_lt 0 n) [
  | inl p ↦ p
  | inr p ↦ absurd (omega (arith, length-digits_of-le base 0 n two (rw (pow-zero base) (omega arith))))
]

-- with an offset added to each
abbrev pub add_offset : ℕ → ℕ → ℕ
add_offset offset digit = offset + digit

-- the last digit that is left is written in front of those that are there
pub digit_step : (base n p offset : ℕ) (out all : List ℕ) → 2 ≤ base → p < length out →
    p + 1 ≡ length (digits_of base n) → map (add_offset offset) (digits_of base n) ++ drop (p + 1) out ≡ all →
    (p ≡ length (digits_of base (n / base))) ×
    (map (add_offset offset) (digits_of base (n / base)) ++ drop p (set out p (offset + n % base)) ≡ all)
digit_step base n p offset out all two within places written =
    let some = some_number base n two (omega arith) in
    let l = length-digits_of_step base n two some in
    let digits : map (add_offset offset) (digits_of base n) ≡
    map (add_offset offset) (digits_of base (n / base)) ++ (offset + n % base) ∷ [] =
    ap (map (add_offset offset)) (digits_of_step base n two some)
    ∙ map_push (add_offset offset) (digits_of base (n / base)) (n % base) in (
      omega arith,
      ap (λ (ys : List ℕ). map (add_offset offset) (digits_of base (n / base)) ++ ys)
          (drop-set out p (offset + n % base) within)
          ∙ sym (append_assoc (map (add_offset offset) (digits_of base (n / base))) ((offset + n % base) ∷ [])
          (drop (p + 1) out))
          ∙ ap (λ (ys : List ℕ). ys ++ drop (p + 1) out) (sym digits)
          ∙ written,
    )

pub no_offset : (ds : List ℕ) → map (add_offset 0) ds ≡ ds
no_offset [] = refl
no_offset (d ∷ ds) = let e : 0 + d ≡ d = zero-add d in let r = no_offset ds in cc

-- the first octet alone
pub first_alone : (xs : List ℕ) (v : ℕ) → 1 ≤ length xs → take 1 (set xs 0 v) ≡ v ∷ []
first_alone [] v h = absurd (omega arith)
first_alone (x ∷ xs) v h = refl

pub put_length : (j : ℕ) (xs ys : List ℕ) → length ys ≡ j → 1 + j ≤ length xs → length (put_mid 1 j xs ys) ≡ length xs
put_length j xs ys e h = simp (length-append, length-take, length-drop) (omega arith)

-- the first octet, and those that were written after it
pub after_first : (j k v : ℕ) (xs ys : List ℕ) → 1 ≤ length xs → length ys ≡ k →
    take (1 + k) (put_mid 1 j (set xs 0 v) ys) ≡ v ∷ ys
after_first j k v xs ys h e =
    take-put_mid 1 j (set xs 0 v) ys (1 + k) (omega arith) (omega (arith, length-set xs 0 v))
    ∙ ap (λ (zs : List ℕ). zs ++ ys) (first_alone xs v h)

-- and one last octet
pub and_last : (j k v w : ℕ) (xs ys : List ℕ) → j ≡ k → 2 + k ≤ length xs → length ys ≡ k →
    take (2 + k) (set (put_mid 1 j (set xs 0 v) ys) (1 + k) w) ≡ v ∷ (ys ++ w ∷ [])
and_last j k v w xs ys i h e =
    let whole : List ℕ = put_mid 1 j (set xs 0 v) ys in
    let l = put_length j (set xs 0 v) ys (omega arith) (omega (arith, length-set xs 0 v)) in
    let n : 2 + k ≡ 1 + k + 1 = omega arith in
    ap (λ m. take m (set whole (1 + k) w)) n
    ∙ take_more_set whole (1 + k) w (omega (arith, length-set xs 0 v))
    ∙ ap (λ (zs : List ℕ). zs ++ w ∷ []) (after_first j k v xs ys (omega arith) e)

-- what is written at the front, and then what is written after it
pub both_fronts : (a b : ℕ) (xs ys zs : List ℕ) → length xs ≡ a → b ≤ length ys →
    take (a + b) (xs ++ (ys ++ zs)) ≡ xs ++ take b ys
both_fronts a b xs ys zs e h =
    ap (λ n. take (n + b) (xs ++ (ys ++ zs))) (sym e) ∙ take-append-add xs (ys ++ zs) b
    ∙ ap (λ (ws : List ℕ). xs ++ ws) (take-append-le b ys zs h)

-- what stands behind the first octet, behind those that were written after it, and behind one last octet
pub behind_first : (j k v : ℕ) (xs ys : List ℕ) → j ≡ k → 1 + k ≤ length xs → length ys ≡ k →
    drop (1 + k) (put_mid 1 j (set xs 0 v) ys) ≡ drop (1 + k) xs
behind_first j k v xs ys i h e =
    drop-put_mid 1 j (set xs 0 v) ys (1 + k) (omega arith) (omega (arith, length-set xs 0 v)) (omega arith)
    ∙ drop-set-lt (1 + k) xs 0 v (omega arith)

pub behind_last : (j k v w : ℕ) (xs ys : List ℕ) → j ≡ k → 2 + k ≤ length xs → length ys ≡ k →
    drop (2 + k) (set (put_mid 1 j (set xs 0 v) ys) (1 + k) w) ≡ drop (2 + k) xs
behind_last j k v w xs ys i h e =
    drop-set-lt (2 + k) (put_mid 1 j (set xs 0 v) ys) (1 + k) w (omega arith)
    ∙ drop-put_mid 1 j (set xs 0 v) ys (2 + k) (omega arith) (omega (arith, length-set xs 0 v)) (omega arith)
    ∙ drop-set-lt (2 + k) xs 0 v (omega arith)

-- what stands behind octets that were written into what follows others, where what stands behind each of them stays
pub behind_both : (a b j : ℕ) (old xs ys : List ℕ) → a + j ≡ length xs → drop a xs ≡ drop a old →
    drop b ys ≡ drop b (mid_of a j xs) → length ys ≡ j → b ≤ j → drop (a + b) (put_mid a j xs ys) ≡ drop (a + b) old
behind_both a b j old xs ys h first second l few =
    let front : length (take a xs) ≡ a = length-take-le a xs (omega arith) in
    let rest : length (drop a xs) ≤ j = omega (arith, length-drop a xs) in
    let none : drop j (drop a xs) ≡ [] = drop_all j (drop a xs) rest in
    let whole : take j (drop a xs) ≡ drop a xs = take_all j (drop a xs) rest in
    sym (drop-drop b a (put_mid a j xs ys))
    ∙ ap (λ (zs : List ℕ). drop b zs) (drop_at (take a xs) (ys ++ drop j (drop a xs)) a front)
    ∙ ap (λ (zs : List ℕ). drop b (ys ++ zs)) none
    ∙ ap (λ (zs : List ℕ). drop b zs) (append-nil ys)
    ∙ second
    ∙ ap (λ (zs : List ℕ). drop b zs) (whole ∙ first)
    ∙ drop-drop b a old
