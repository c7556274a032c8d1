-- A tape begins with that of one value, and ends with that of one value.
use Rattle.std.proofs.Common.{◌≡◌, ◌≢◌, ◌∙◌, ap, sym, subst, refl, ℕ, suc, ◌+◌, ◌<◌, ◌≤◌, inl, inr, Bool, List, [], ◌∷◌, ◌++◌, append_assoc, length, arith}
use Rattle.std.specs.Prelude.{◌⊎◌, map}
use Rattle.std.proofs.Common.{append-nil}
use Rattle.asn1_schema.specs.Values.{LeafValue, bits}
use Rattle.asn1_schema.specs.Tape.{Kept, KeptRow, Sort, of_octets, of_text, of_time, string, pieces, kept_leaf, kept_string, kept_bits, kept_row, kept_chosen, kept_none, kept_absent, kept_more}
use Rattle.asn1_schema.specs.Tape.{Mark, leaf_mark, begin_mark, end_mark, absent_mark, arm_mark, arm_end_mark, pieces_mark, pieces_end_mark, between, tape_of, tapes_of}

-- behind what is between two marks
behind : (first last : Mark) (inner r : List Mark) → between first inner last ++ r ≡ first ∷ (inner ++ last ∷ r)
behind first last inner r = ap (λ (z : List Mark). first ∷ z) (append_assoc inner (last ∷ []) r)

-- no value begins with an end, nor with what is left out
not_end : (v : Kept) (n : ℕ) (r s : List Mark) → tape_of v ++ r ≡ end_mark n ∷ s → ⊥
not_end (kept_leaf l) n r s e = absurd (cc)
not_end (kept_string k o os) n r s e = absurd (cc)
not_end (kept_bits b bs) n r s e = absurd (cc)
not_end (kept_row vs) n r s e = absurd (cc)
not_end (kept_chosen k v) n r s e = absurd (cc)

not_absent : (v : Kept) (r s : List Mark) → tape_of v ++ r ≡ absent_mark ∷ s → ⊥
not_absent (kept_leaf l) r s e = absurd (cc)
not_absent (kept_string k o os) r s e = absurd (cc)
not_absent (kept_bits b bs) r s e = absurd (cc)
not_absent (kept_row vs) r s e = absurd (cc)
not_absent (kept_chosen k v) r s e = absurd (cc)

-- strings of two sorts differ
same_string : (s t : Sort) (o u : List ℕ) → leaf_mark (string s o) ≡ leaf_mark (string t u) → (s ≡ t) × (o ≡ u)
same_string of_octets of_octets o u e = (refl, cc)
same_string (of_text k) (of_text j) o u e = (cc, cc)
same_string (of_time k) (of_time j) o u e = (cc, cc)
same_string _ _ o u e = absurd (cc)

not_bits : (s : Sort) (o : List ℕ) (b : List Bool) → leaf_mark (string s o) ≡ leaf_mark (bits b) → ⊥
not_bits of_octets o b e = absurd (cc)
not_bits (of_text k) o b e = absurd (cc)
not_bits (of_time k) o b e = absurd (cc)

same_bits : (b c : List Bool) → leaf_mark (bits b) ≡ leaf_mark (bits c) → b ≡ c
same_bits b c e = cc

same_octets : (s : Sort) (o u : List ℕ) → leaf_mark (string s o) ≡ leaf_mark (string s u) → o ≡ u
same_octets s o u e = (same_string s s o u e).1

one_pieces : {A : Type 0} (make : A → LeafValue) → ((x y : A) → leaf_mark (make x) ≡ leaf_mark (make y) → x ≡ y) →
    (ls ms : List A) (n m : ℕ) (r s : List Mark) → map (λ x. leaf_mark (make x)) ls ++ pieces_end_mark n ∷ r ≡
    map (λ x. leaf_mark (make x)) ms ++ pieces_end_mark m ∷ s → (ls ≡ ms) × (r ≡ s)
one_pieces make inj [] [] n m r s e = (refl, cc)
one_pieces make inj [] (y ∷ ms) n m r s e = absurd (cc)
one_pieces make inj (x ∷ ls) [] n m r s e = absurd (cc)
one_pieces make inj (x ∷ ls) (y ∷ ms) n m r s e =
    let front : leaf_mark (make x) ≡ leaf_mark (make y) = cc in
    let first = inj x y front in
    let rest : map (λ x. leaf_mark (make x)) ls ++ pieces_end_mark n ∷ r ≡
    map (λ x. leaf_mark (make x)) ms ++ pieces_end_mark m ∷ s = cc in
    let u = one_pieces make inj ls ms n m r s rest in
    let others = u.0 in
    (cc, u.1)

-- what stands behind pieces, and the first piece in front
all_pieces : {A : Type 0} (make : A → LeafValue) (x : A) (xs : List A) (r : List Mark) → pieces make x xs ++ r ≡
    pieces_mark (suc (length xs)) ∷ (leaf_mark (make x) ∷ (map (λ y. leaf_mark (make y)) xs ++
    pieces_end_mark (suc (length xs)) ∷ r))
all_pieces make x xs r = behind (pieces_mark (suc (length xs))) (pieces_end_mark (suc (length xs)))
    (map (λ y. leaf_mark (make y)) (x ∷ xs)) r

mutual
  pub one_tape : (v w : Kept) (r s : List Mark) → tape_of v ++ r ≡ tape_of w ++ s → (v ≡ w) × (r ≡ s)
  one_tape (kept_leaf a) (kept_leaf b) r s e = (cc, cc)
  one_tape (kept_string k o os) (kept_string j u us) r s e =
      let f = sym (all_pieces (string k) o os r) ∙ (e ∙ all_pieces (string j) u us s) in
      let front : leaf_mark (string k o) ≡ leaf_mark (string j u) = cc in
      let first = same_string k j o u front in
      let rest : map (λ y. leaf_mark (string k y)) os ++ pieces_end_mark (suc (length os)) ∷ r ≡
      map (λ y. leaf_mark (string j y)) us ++ pieces_end_mark (suc (length us)) ∷ s = cc in
      let t = one_pieces (string j) (same_octets j) os us (suc (length os)) (suc (length us)) r s
      (subst (λ (z : Sort). map (λ y. leaf_mark (string z y)) os ++ pieces_end_mark (suc (length os)) ∷ r ≡
      map (λ y. leaf_mark (string j y)) us ++ pieces_end_mark (suc (length us)) ∷ s) first.0 rest) in
      let a = first.0 in
      let b = first.1 in
      let c = t.0 in
      (cc, t.1)
  one_tape (kept_bits o os) (kept_bits u us) r s e =
      let f = sym (all_pieces bits o os r) ∙ (e ∙ all_pieces bits u us s) in
      let front : leaf_mark (bits o) ≡ leaf_mark (bits u) = cc in
      let first = same_bits o u front in
      let rest : map (λ y. leaf_mark (bits y)) os ++ pieces_end_mark (suc (length os)) ∷ r ≡
      map (λ y. leaf_mark (bits y)) us ++ pieces_end_mark (suc (length us)) ∷ s = cc in
      let t = one_pieces bits same_bits os us (suc (length os)) (suc (length us)) r s rest in
      let c = t.0 in
      (cc, t.1)
  one_tape (kept_string k o os) (kept_bits u us) r s e =
      let f = sym (all_pieces (string k) o os r) ∙ (e ∙ all_pieces bits u us s) in
      let front : leaf_mark (string k o) ≡ leaf_mark (bits u) = cc in
      absurd (not_bits k o u front)
  one_tape (kept_bits u us) (kept_string k o os) r s e =
      let f = sym (all_pieces bits u us r) ∙ (e ∙ all_pieces (string k) o os s) in
      let front : leaf_mark (string k o) ≡ leaf_mark (bits u) = cc in
      absurd (not_bits k o u front)
  one_tape (kept_row vs) (kept_row ws) r s e =
      let f = sym (behind (begin_mark (length (tapes_of vs))) (end_mark (length (tapes_of vs))) (tapes_of vs) r)
      ∙ (e ∙ behind (begin_mark (length (tapes_of ws))) (end_mark (length (tapes_of ws))) (tapes_of ws) s) in
      let rest : tapes_of vs ++ end_mark (length (tapes_of vs)) ∷ r ≡ tapes_of ws ++ end_mark (length (tapes_of ws)) ∷ s =
      cc in
      let u = one_tapes vs ws (length (tapes_of vs)) (length (tapes_of ws)) r s rest in
      (ap kept_row u.0, u.1)
  one_tape (kept_chosen k v) (kept_chosen j w) r s e =
      let f = sym (behind (arm_mark k) (arm_end_mark k) (tape_of v) r)
      ∙ (e ∙ behind (arm_mark j) (arm_end_mark j) (tape_of w) s) in
      let same : k ≡ j = cc in
      let rest : tape_of v ++ arm_end_mark k ∷ r ≡ tape_of w ++ arm_end_mark j ∷ s = cc in
      let u = one_tape v w (arm_end_mark k ∷ r) (arm_end_mark j ∷ s) rest in
      let value = u.0 in
      let tail = u.1 in
      (cc, cc)
  one_tape _ _ r s e = absurd (cc)

  one_tapes : (vs ws : KeptRow) (n m : ℕ) (r s : List Mark) →
      tapes_of vs ++ end_mark n ∷ r ≡ tapes_of ws ++ end_mark m ∷ s → (vs ≡ ws) × (r ≡ s)
  one_tapes kept_none kept_none n m r s e = (refl, cc)
  one_tapes kept_none (kept_absent ws) n m r s e = absurd (cc)
  one_tapes kept_none (kept_more w ws) n m r s e =
      absurd (not_end w n (tapes_of ws ++ end_mark m ∷ s) r
      (sym (append_assoc (tape_of w) (tapes_of ws) (end_mark m ∷ s)) ∙ sym e))
  one_tapes (kept_absent vs) kept_none n m r s e = absurd (cc)
  one_tapes (kept_absent vs) (kept_absent ws) n m r s e =
      let rest : tapes_of vs ++ end_mark n ∷ r ≡ tapes_of ws ++ end_mark m ∷ s = cc in
      let u = one_tapes vs ws n m r s rest in
      (ap kept_absent u.0, u.1)
  one_tapes (kept_absent vs) (kept_more w ws) n m r s e =
      absurd (not_absent w (tapes_of ws ++ end_mark m ∷ s) (tapes_of vs ++ end_mark n ∷ r)
      (sym (append_assoc (tape_of w) (tapes_of ws) (end_mark m ∷ s)) ∙ sym e))
  one_tapes (kept_more v vs) kept_none n m r s e =
      absurd (not_end v m (tapes_of vs ++ end_mark n ∷ r) s
      (sym (append_assoc (tape_of v) (tapes_of vs) (end_mark n ∷ r)) ∙ e))
  one_tapes (kept_more v vs) (kept_absent ws) n m r s e =
      absurd (not_absent v (tapes_of vs ++ end_mark n ∷ r) (tapes_of ws ++ end_mark m ∷ s)
      (sym (append_assoc (tape_of v) (tapes_of vs) (end_mark n ∷ r)) ∙ e))
  one_tapes (kept_more v vs) (kept_more w ws) n m r s e =
      let u = one_tape v w (tapes_of vs ++ end_mark n ∷ r) (tapes_of ws ++ end_mark m ∷ s)
      (sym (append_assoc (tape_of v) (tapes_of vs) (end_mark n ∷ r)) ∙
      (e ∙ append_assoc (tape_of w) (tapes_of ws) (end_mark m ∷ s))) in
      let t = one_tapes vs ws n m r s u.1 in
      let here = u.0 in
      let there = t.0 in
      (cc, t.1)

-- How many marks open what others close.

abbrev opening : Mark → ℕ
opening (begin_mark n) = 1
opening (arm_mark k) = 1
opening (pieces_mark n) = 1
opening _ = 0

abbrev closing : Mark → ℕ
closing (end_mark n) = 1
closing (arm_end_mark k) = 1
closing (pieces_end_mark n) = 1
closing _ = 0

abbrev opens : List Mark → ℕ
opens [] = 0
opens (m ∷ ms) = opening m + opens ms

abbrev closes : List Mark → ℕ
closes [] = 0
closes (m ∷ ms) = closing m + closes ms

opens_append : (x y : List Mark) → opens (x ++ y) ≡ opens x + opens y
opens_append [] y = omega arith
opens_append (m ∷ x) y = let e = opens_append x y in omega (arith, e)

closes_append : (x y : List Mark) → closes (x ++ y) ≡ closes x + closes y
closes_append [] y = omega arith
closes_append (m ∷ x) y = let e = closes_append x y in omega (arith, e)

no_opens : {A : Type 0} (make : A → LeafValue) (ls : List A) → opens (map (λ x. leaf_mark (make x)) ls) ≡ 0
no_opens make [] = refl
no_opens make (l ∷ ls) = let e = no_opens make ls in omega (arith, e)

no_closes : {A : Type 0} (make : A → LeafValue) (ls : List A) → closes (map (λ x. leaf_mark (make x)) ls) ≡ 0
no_closes make [] = refl
no_closes make (l ∷ ls) = let e = no_closes make ls in omega (arith, e)

pieces_balanced : {A : Type 0} (make : A → LeafValue) (x : A) (xs : List A) → opens (pieces make x xs) ≡ closes (pieces make x xs)
pieces_balanced make x xs =
    let a = opens_append (map (λ y. leaf_mark (make y)) xs) (pieces_end_mark (suc (length xs)) ∷ []) in
    let b = closes_append (map (λ y. leaf_mark (make y)) xs) (pieces_end_mark (suc (length xs)) ∷ []) in
    let c = no_opens make xs in
    let d = no_closes make xs in
    omega (arith, a, b, c, d)

-- so many open as close
mutual
  balanced : (v : Kept) → opens (tape_of v) ≡ closes (tape_of v)
  balanced (kept_leaf l) = refl
  balanced (kept_string s o os) = pieces_balanced (string s) o os
  balanced (kept_bits b bs) = pieces_balanced bits b bs
  balanced (kept_row vs) =
      let a = opens_append (tapes_of vs) (end_mark (length (tapes_of vs)) ∷ []) in
      let b = closes_append (tapes_of vs) (end_mark (length (tapes_of vs)) ∷ []) in
      let i = balanced_row vs in
      omega (arith, a, b, i)
  balanced (kept_chosen k v) =
      let a = opens_append (tape_of v) (arm_end_mark k ∷ []) in
      let b = closes_append (tape_of v) (arm_end_mark k ∷ []) in
      let i = balanced v in
      omega (arith, a, b, i)

  balanced_row : (vs : KeptRow) → opens (tapes_of vs) ≡ closes (tapes_of vs)
  balanced_row kept_none = refl
  balanced_row (kept_absent vs) = let i = balanced_row vs in omega (arith, i)
  balanced_row (kept_more v vs) =
      let a = opens_append (tape_of v) (tapes_of vs) in
      let b = closes_append (tape_of v) (tapes_of vs) in
      let i = balanced v in
      let j = balanced_row vs in
      omega (arith, a, b, i, j)

-- two ways to cut one list
truncated_two : (x y c d : List Mark) → x ++ y ≡ c ++ d →
    ((e : List Mark) × (x ≡ c ++ e) × (d ≡ e ++ y)) ⊎ ((e : List Mark) × (c ≡ x ++ e) × (y ≡ e ++ d))
truncated_two [] y c d q = inr (c, refl, q)
truncated_two (m ∷ x) y [] d q = inl (m ∷ x, refl, sym q)
truncated_two (m ∷ x) y (n ∷ c) d q =
    let first : m ≡ n = cc in
    let rest : x ++ y ≡ c ++ d = cc in
    elim (truncated_two x y c d rest) [
      | inl a ↦ let s = a.1 in inl (a.0, cc, a.2)
      | inr a ↦ let s = a.1 in inr (a.0, cc, a.2)
    ]

-- what is cut off before the end of a list that is followed by one mark
before_last : (x : List Mark) (last : Mark) (c d : List Mark) → d ≢ [] → x ++ last ∷ [] ≡ c ++ d →
    (e : List Mark) × (x ≡ c ++ e)
before_last x last c d some q = elim (truncated_two x (last ∷ []) c d q) [
  | inl a ↦ (a.0, a.1)
  | inr a ↦ by_rest a.0 a.1 a.2
]
  where
    by_rest : (e : List Mark) → c ≡ x ++ e → last ∷ [] ≡ e ++ d → (e : List Mark) × (x ≡ c ++ e)
    by_rest [] f g = ([], sym (append-nil x) ∙ (sym f ∙ sym (append-nil c)))
    by_rest (m ∷ e) f g = absurd (some (nothing_left e d (let h : [] ≡ e ++ d = cc in sym h)))
      where
        nothing_left : (e d : List Mark) → e ++ d ≡ [] → d ≡ []
        nothing_left [] d h = h
        nothing_left (m ∷ e) d h = absurd (cc)

-- of what stands in front of the leaves of a string nothing closes more than is opened
pieces_front : {A : Type 0} (make : A → LeafValue) (ls : List A) (c e : List Mark) →
    map (λ x. leaf_mark (make x)) ls ≡ c ++ e → closes c ≤ opens c
pieces_front make ls c e q =
    let a = ap closes q ∙ closes_append c e in
    let z = no_closes make ls in
    omega (arith, a, z)

pieces_open : {A : Type 0} (make : A → LeafValue) (x : A) (xs : List A) (m : Mark) (c d : List Mark) → d ≢ [] →
    pieces make x xs ≡ (m ∷ c) ++ d → closes (m ∷ c) < opens (m ∷ c)
pieces_open make x xs m c d more q =
    let first : pieces_mark (suc (length xs)) ≡ m = cc in
    let rest : map (λ y. leaf_mark (make y)) (x ∷ xs) ++ pieces_end_mark (suc (length xs)) ∷ [] ≡ c ++ d = cc in
    let b = before_last (map (λ y. leaf_mark (make y)) (x ∷ xs)) (pieces_end_mark (suc (length xs))) c d more rest in
    let i = pieces_front make (x ∷ xs) c b.0 b.1 in
    subst (λ (z : Mark). closes (z ∷ c) < opens (z ∷ c)) first (omega (arith, i))

-- a part of a tape in front of the rest leaves something open
abbrev LeavesOpen : Kept → Type 0
LeavesOpen v = (c d : List Mark) → c ≢ [] → d ≢ [] → tape_of v ≡ c ++ d → closes c < opens c

-- so nothing is closed that was not opened
part_open : (v : Kept) → LeavesOpen v → (c d : List Mark) → tape_of v ≡ c ++ d → closes c ≤ opens c
part_open v f [] d q = omega arith
part_open v f (m ∷ c) [] q =
    let b = balanced v in
    let o = ap opens (q ∙ append-nil (m ∷ c)) in
    let z = ap closes (q ∙ append-nil (m ∷ c)) in
    omega (arith, b, o, z)
part_open v f (m ∷ c) (n ∷ d) q =
    let i = f (m ∷ c) (n ∷ d) (λ h. cc) (λ h. cc) q in
    omega (arith, i)

mutual
  front_open : (v : Kept) → LeavesOpen v
  front_open v [] d some more q = absurd (some refl)
  front_open (kept_leaf l) (m ∷ c) d some more q =
      absurd (more (nothing_left c d (let h : [] ≡ c ++ d = cc in sym h)))
    where
      nothing_left : (e d : List Mark) → e ++ d ≡ [] → d ≡ []
      nothing_left [] d h = h
      nothing_left (m ∷ e) d h = absurd (cc)
  front_open (kept_string s o os) (m ∷ c) d some more q = pieces_open (string s) o os m c d more q
  front_open (kept_bits b bs) (m ∷ c) d some more q = pieces_open bits b bs m c d more q
  front_open (kept_row vs) (m ∷ c) d some more q =
      let first : begin_mark (length (tapes_of vs)) ≡ m = cc in
      let rest : tapes_of vs ++ end_mark (length (tapes_of vs)) ∷ [] ≡ c ++ d = cc in
      let b = before_last (tapes_of vs) (end_mark (length (tapes_of vs))) c d more rest in
      let i = row_open vs c b.0 b.1 in
      subst (λ (z : Mark). closes (z ∷ c) < opens (z ∷ c)) first (omega (arith, i))
  front_open (kept_chosen k v) (m ∷ c) d some more q =
      let first : arm_mark k ≡ m = cc in
      let rest : tape_of v ++ arm_end_mark k ∷ [] ≡ c ++ d = cc in
      let b = before_last (tape_of v) (arm_end_mark k) c d more rest in
      let i = part_open v (λ x y f g h. front_open v x y f g h) c b.0 b.1 in
      subst (λ (z : Mark). closes (z ∷ c) < opens (z ∷ c)) first (omega (arith, i))

  row_open : (vs : KeptRow) (c d : List Mark) → tapes_of vs ≡ c ++ d → closes c ≤ opens c
  row_open vs [] d q = omega arith
  row_open kept_none (m ∷ c) d q = absurd (cc)
  row_open (kept_absent vs) (m ∷ c) d q =
      let first : absent_mark ≡ m = cc in
      let rest : tapes_of vs ≡ c ++ d = cc in
      let i = row_open vs c d rest in
      subst (λ (z : Mark). closes (z ∷ c) ≤ opens (z ∷ c)) first (omega (arith, i))
  row_open (kept_more v vs) (m ∷ c) d q = elim (truncated_two (tape_of v) (tapes_of vs) (m ∷ c) d q) [
    | inl a ↦ part_open v (λ x y f g h. front_open v x y f g h) (m ∷ c) a.0 a.1
    | inr a ↦
        let i = row_open vs a.0 d a.2 in
        let b = balanced v in
        let o = ap opens a.1 ∙ opens_append (tape_of v) a.0 in
        let z = ap closes a.1 ∙ closes_append (tape_of v) a.0 in
        omega (arith, i, b, o, z)
  ]

some_tape : (v : Kept) → tape_of v ≢ []
some_tape (kept_leaf l) e = cc
some_tape (kept_string s o os) e = cc
some_tape (kept_bits b bs) e = cc
some_tape (kept_row vs) e = cc
some_tape (kept_chosen k v) e = cc

-- no tape of a value is the end of another
not_within : (v w : Kept) (e : List Mark) → tape_of v ≡ e ++ tape_of w → e ≡ []
not_within v w [] q = refl
not_within v w (m ∷ e) q =
    let i = front_open v (m ∷ e) (tape_of w) (λ h. cc) (some_tape w) q in
    let b = balanced v in
    let d = balanced w in
    let o = ap opens q ∙ opens_append (m ∷ e) (tape_of w) in
    let z = ap closes q ∙ closes_append (m ∷ e) (tape_of w) in
    absurd (omega (arith, i, b, d, o, z))

-- a tape ends with that of one value, behind one front
pub one_tape_back : (v w : Kept) (r s : List Mark) → r ++ tape_of v ≡ s ++ tape_of w → (v ≡ w) × (r ≡ s)
one_tape_back v w r s q = elim (truncated_two r (tape_of v) s (tape_of w) q) [
  | inl a ↦
      let n = not_within w v a.0 a.2 in
      let t : tape_of w ≡ tape_of v = a.2 ∙ ap (λ (z : List Mark). z ++ tape_of v) n in
      (same v w (sym t), a.1 ∙ (ap (λ (z : List Mark). s ++ z) n ∙ append-nil s))
  | inr a ↦
      let n = not_within v w a.0 a.2 in
      let t : tape_of v ≡ tape_of w = a.2 ∙ ap (λ (z : List Mark). z ++ tape_of w) n in
      (same v w t, sym (a.1 ∙ (ap (λ (z : List Mark). r ++ z) n ∙ append-nil r)))
]
  where
    same : (v w : Kept) → tape_of v ≡ tape_of w → v ≡ w
    same v w t = (one_tape v w [] [] (append-nil (tape_of v) ∙ (t ∙ sym (append-nil (tape_of w))))).0
