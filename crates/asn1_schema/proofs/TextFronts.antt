-- Characters at the front of octets.
use Rattle.std.proofs.Common.{◌≡◌, ◌∙◌, ap, sym, subst, refl, ℕ, ◌-◌, ◌<◌, ◌≤◌, ◌⊎◌, inl, inr, true, List, [], ◌∷◌, ◌++◌, length, take, drop, arith, append_assoc, append-nil, length-append}
use Rattle.std.specs.Prelude.{IsUtf8}
use Rattle.std.specs.Char.{encode_utf8}
use Rattle.std.specs.Str.{all_scalars, IsValidUpTo, encode_utf8_all}
use Rattle.std.proofs.lemmas.Bool.{and_parts, cases_lt}
use Rattle.std.proofs.lemmas.List.{take-append-le, take-append-drop, take_at, drop_at, drop-append-le, drop_all, length-take-le}
use Rattle.std.proofs.lemmas.Str.{IsUtf8-append, IsUtf8-drop, IsUtf8-encode, IsCharBoundary-from_take, length-encode, len_utf8_bounds}
use lib.Utf8.{scalar}
use Rattle.x690.specs.Characters.{code_of, Codes, BeginsWithCharacter, IsCharacterCode}
use Rattle.x690.specs.Laws.Characters.{character_some}
use Rattle.asn1_schema.specs.Joined.{AreWholeCharacters}

-- what begins octets whole
front_of : (a b w rest : List ℕ) → a ++ b ≡ w ++ rest → length a ≤ length w → take (length a) w ≡ a
front_of a b w rest e l =
    sym (take-append-le (length a) w rest l) ∙ ap (λ (z : List ℕ). take (length a) z) (sym e) ∙ take_at a b (length a) refl

-- so do four octets at most
within_four : (a b w rest : List ℕ) → a ++ b ≡ w ++ rest → length a ≤ 4 → (4 ≤ length w) ⊎ (rest ≡ []) → length a ≤ length w
within_four a b w rest e few (inl l) = omega (arith, few, l)
within_four a b w rest e few (inr z) =
    let all : length (a ++ b) ≡ length (w ++ rest) = ap (λ (x : List ℕ). length x) e in
    let m = length-append a b in
    let n = length-append w rest in
    let none : length rest ≡ 0 = ap (λ (x : List ℕ). length x) z in
    omega (arith, all, m, n, none)

-- UTF-8.

utf8_behind : (xs ys : List ℕ) → IsUtf8 xs → IsUtf8 (xs ++ ys) → IsUtf8 ys
utf8_behind xs ys v u =
    let n = length xs in
    let within : n ≤ length (xs ++ ys) = let l = length-append xs ys in omega (arith, l) in
    let truncated = IsCharBoundary-from_take (xs ++ ys) n u within (subst IsUtf8 (sym (take_at xs ys n refl)) v) in
    subst IsUtf8 (drop_at xs ys n refl) (IsUtf8-drop (xs ++ ys) n u truncated)

parted : (w rest : List ℕ) (n : ℕ) → w ++ rest ≡ take n w ++ (drop n w ++ rest)
parted w rest n = ap (λ (z : List ℕ). z ++ rest) (sym (take-append-drop n w)) ∙ append_assoc (take n w) (drop n w) rest

pub utf8_whole : (w : List ℕ) → IsUtf8 w → 0 < length w → AreWholeCharacters IsUtf8 w (length w)
utf8_whole w u some =
    let none : drop (length w) w ≡ [] =
    ap (λ (z : List ℕ). drop (length w) z) (sym (append-nil w)) ∙ drop_at w [] (length w) refl in
    record {
      within = omega arith;
      less = λ f rest a. subst (λ (z : List ℕ). IsUtf8 (z ++ rest)) (sym none) (utf8_behind w rest u a);
      more = λ f rest a. IsUtf8-append w rest u (subst (λ (z : List ℕ). IsUtf8 (z ++ rest)) none a);
      none = λ z rest l a. omega (arith, z, some);
    }

pub utf8_part : (w : List ℕ) (n : ℕ) → IsValidUpTo w n → 0 < length w → AreWholeCharacters IsUtf8 w n
utf8_part w n v some = record {
  within = let s = v.short in omega (arith, s);
  less = λ f rest a. utf8_behind (take n w) (drop n w ++ rest) v.front (subst IsUtf8 (parted w rest n) a);
  more = λ f rest a. subst IsUtf8 (sym (parted w rest n)) (IsUtf8-append (take n w) (drop n w ++ rest) v.front a);
  none = λ z rest l a. by_text z rest l a.0 a.1.0 a.1.1;
}
  where
    by_text : n ≡ 0 → (rest : List ℕ) → (4 ≤ length w) ⊎ (rest ≡ []) → (cs : List ℕ) → all_scalars cs ≡ true →
        encode_utf8_all cs ≡ w ++ rest → ⊥
    by_text z rest l [] s e =
        let all : length (encode_utf8_all []) ≡ length (w ++ rest) = ap (λ (x : List ℕ). length x) e in
        let m = length-append w rest in
        omega (arith, all, m, some)
    by_text z rest l (c ∷ cs) s e =
        let k = length-encode c in
        let b = len_utf8_bounds c in
        let within = within_four (encode_utf8 c) (encode_utf8_all cs) w rest e (omega (arith, k, b)) l in
        let is = front_of (encode_utf8 c) (encode_utf8_all cs) w rest e within in
        v.longest (length (encode_utf8 c)) (omega (arith, k, b, z))
        (subst IsUtf8 (sym is) (IsUtf8-encode c (and_parts (scalar c) (all_scalars cs) s).0))

-- A code of characters.
module _ (octets_of : ℕ → List ℕ) (is : IsCharacterCode octets_of) (w : List ℕ) (some : 0 < length w) where
  pub code_some : (c : ℕ) (others : List ℕ) → BeginsWithCharacter octets_of w c others →
      AreWholeCharacters (λ o. (cs : List ℕ) × Codes (code_of octets_of) o cs) w (length w - length others)
  code_some c others b = record {
    within = omega arith;
    less = λ f rest a. subst (λ (z : List ℕ). (cs : List ℕ) × Codes (code_of octets_of) (z ++ rest) cs) (sym left)
        (by_text rest a.0 a.1.0 (sym a.1.1));
    more = λ f rest a.
        let e = ap (λ (z : List ℕ). z ++ rest) b.is ∙ append_assoc (octets_of c) others rest in
        let o = ap (λ (z : List ℕ). z ++ rest) (sym left) ∙ a.1.1 in (
          c ∷ a.0,
          (scalars_first a.0 a.1.0, e ∙ ap (λ (z : List ℕ). octets_of c ++ z) o),
        );
    none = λ z rest l a.
        let m = ap (λ (x : List ℕ). length x) b.is ∙ length-append (octets_of c) others in
        let k = character_some octets_of is c in
        omega (arith, z, m, k);
  }
    where
      left : drop (length w - length others) w ≡ others
      left =
          let m = ap (λ (x : List ℕ). length x) b.is ∙ length-append (octets_of c) others in
          let n : length w - length others ≡ length (octets_of c) = omega (arith, m) in
          ap (λ (z : List ℕ). drop (length w - length others) z) b.is ∙ drop_at (octets_of c) others (length w - length others) (sym n)

      scalars_first : (cs : List ℕ) → all_scalars cs ≡ true → all_scalars (c ∷ cs) ≡ true
      scalars_first cs s = rw (b.scalar, s) refl

      by_text : (rest cs : List ℕ) → all_scalars cs ≡ true → code_of octets_of cs ≡ w ++ rest →
          (ds : List ℕ) × Codes (code_of octets_of) (others ++ rest) ds
      by_text rest [] s e =
          let all : length (code_of octets_of []) ≡ length (w ++ rest) = ap (λ (x : List ℕ). length x) e in
          let m = length-append w rest in
          absurd (omega (arith, all, m, some))
      by_text rest (d ∷ ds) s e =
          let p = and_parts (scalar d) (all_scalars ds) s in
          let o = is.one d c (code_of octets_of ds) (others ++ rest) p.0 b.scalar
          (e ∙ ap (λ (z : List ℕ). z ++ rest) b.is ∙ append_assoc (octets_of c) others rest) in
          (ds, (p.1, sym o.1))

  pub code_none : ((c : ℕ) (rest : List ℕ) → BeginsWithCharacter octets_of w c rest → ⊥) →
      AreWholeCharacters (λ o. (cs : List ℕ) × Codes (code_of octets_of) o cs) w 0
  code_none n = record {
    within = omega arith;
    less = λ f rest a. absurd (omega (arith, f));
    more = λ f rest a. absurd (omega (arith, f));
    none = λ z rest l a. by_text rest l a.0 a.1.0 (sym a.1.1);
  }
    where
      by_text : (rest : List ℕ) → (4 ≤ length w) ⊎ (rest ≡ []) → (cs : List ℕ) → all_scalars cs ≡ true →
          code_of octets_of cs ≡ w ++ rest → ⊥
      by_text rest l [] s e =
          let all : length (code_of octets_of []) ≡ length (w ++ rest) = ap (λ (x : List ℕ). length x) e in
          let m = length-append w rest in
          omega (arith, all, m, some)
      by_text rest l (d ∷ ds) s e =
          let p = and_parts (scalar d) (all_scalars ds) s in
          let within = within_four (octets_of d) (code_of octets_of ds) w rest e (is.few d) l in
          let front = front_of (octets_of d) (code_of octets_of ds) w rest e within in
          n d (drop (length (octets_of d)) w) (record {
            scalar = p.0;
            is = sym (take-append-drop (length (octets_of d)) w)
                ∙ ap (λ (z : List ℕ). z ++ drop (length (octets_of d)) w) front;
          })

-- The first four octets of some, or all of them.
module _ (P : List ℕ → Type 0) (all w : List ℕ) (n : ℕ) (f : AreWholeCharacters P w n) (e : w ≡ take 4 all) where
  whole : all ≡ w ++ drop 4 all
  whole = sym (take-append-drop 4 all) ∙ ap (λ (z : List ℕ). z ++ drop 4 all) (sym e)

  four_or_all : (4 ≤ length w) ⊎ (drop 4 all ≡ [])
  four_or_all = elim (cases_lt (length all) 4) [
    | inl l ↦ inr (drop_all 4 all (omega (arith, l)))
    | inr l ↦ inl (
        let k : length w ≡ 4 = ap (λ (z : List ℕ). length z) e ∙ length-take-le 4 all l in
        omega (arith, k))
  ]

  left : drop n all ≡ drop n w ++ drop 4 all
  left =
      let l = f.within in
      ap (λ (z : List ℕ). drop n z) whole ∙ drop-append-le n w (drop 4 all) l

  pub front_none : n ≡ 0 → P all → ⊥
  front_none z a = f.none z (drop 4 all) four_or_all (subst P whole a)

  pub front_less : 0 < n → P all → P (drop n all)
  front_less s a = subst P (sym left) (f.less s (drop 4 all) (subst P whole a))

  pub front_more : 0 < n → P (drop n all) → P all
  front_more s a = subst P (sym whole) (f.more s (drop 4 all) (subst P left a))
