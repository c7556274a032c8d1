-- The signs of tapes and of values.
use Rattle.std.proofs.Common.{◌≡◌, ◌∙◌, ap, sym, refl, ℕ, zero, suc, ◌+◌, List, [], ◌∷◌, ◌++◌, append_assoc, append-nil, length, take, drop, arith}
use Rattle.std.specs.Prelude.{Bool, map}
use Rattle.std.proofs.lemmas.List.{length-map, take-map, drop-map, drop-drop}
use Rattle.std.proofs.Math.Seq.{take-append_seam}
use Rattle.asn1_schema.specs.declared.tape.Item.{Item}
use Rattle.asn1_schema.specs.declared.same.SignKind.TheVariants as signs
use Rattle.asn1_schema.specs.Values.{LeafValue, boolean, null, integer, enumerated, bits, octets, identifier, text, time, any}
use Rattle.asn1_schema.specs.Values.{Value, Values, leaf, row, chosen, none, absent, more, joined}
use Rattle.asn1_schema.specs.Tape.{Sort, of_octets, of_text, of_time, string}
use Rattle.asn1_schema.specs.Tape.{Kept, KeptRow, kept_leaf, kept_string, kept_bits, kept_row, kept_chosen, kept_none, kept_absent, kept_more}
use Rattle.asn1_schema.specs.Tape.{Mark, mark, marks, leaf_mark, end_mark, arm_end_mark, pieces_mark, value_of, values_of, tape_of, tapes_of}
use Rattle.asn1_schema.proofs.StringOctets.{octets_of_pieces}
use Rattle.asn1_schema.specs.Same.{all_bits_of, joined_leaf, Sign, bracket, sign_said, signs_from, signs_of}
use Rattle.asn1_schema.specs.Same.{signs_of_row}

-- marks that belong to the sign before them are left out
pub signs_behind : (n : ℕ) (ms : List Mark) → signs_from n ms ≡ signs_from 0 (drop n ms)
signs_behind zero ms = refl
signs_behind (suc n) [] = refl
signs_behind (suc n) (m ∷ ms) = signs_behind n ms

-- what a leaf in one piece joins to
pub one_leaf : (l : LeafValue) → joined_leaf (leaf_mark l ∷ []) ≡ l
one_leaf (boolean b) = refl
one_leaf null = refl
one_leaf (integer n) = refl
one_leaf (enumerated n) = refl
one_leaf (bits bs) = ap bits (append-nil bs)
one_leaf (octets o) = ap octets (append-nil o)
one_leaf (identifier r o) = refl
one_leaf (text k o) = ap (text k) (append-nil o)
one_leaf (time k o) = ap (time k) (append-nil o)
one_leaf (any id o) = refl

string_joined : (s : Sort) (o : List ℕ) (os : List (List ℕ)) →
    joined_leaf (map (λ y. leaf_mark (string s y)) (o ∷ os)) ≡ string s (joined (o ∷ os))
string_joined of_octets o os = ap (λ (z : List ℕ). octets (o ++ z)) (octets_of_pieces of_octets os)
string_joined (of_text k) o os = ap (λ (z : List ℕ). text k (o ++ z)) (octets_of_pieces (of_text k) os)
string_joined (of_time k) o os = ap (λ (z : List ℕ). time k (o ++ z)) (octets_of_pieces (of_time k) os)

bits_joined : (bs : List (List Bool)) → all_bits_of (map (λ y. leaf_mark (bits y)) bs) ≡ joined bs
bits_joined [] = refl
bits_joined (b ∷ bs) = ap (λ (z : List Bool). b ++ z) (bits_joined bs)

-- pieces are one sign
pieces_sign : (ps : List Mark) (n : ℕ) (l : LeafValue) (e : Mark) (r : List Mark) → length ps ≡ n → joined_leaf ps ≡ l →
    signs_from 0 (pieces_mark n ∷ ((ps ++ e ∷ []) ++ r)) ≡ sign_said l ∷ signs_from 0 r
pieces_sign ps n l e r size joins =
    let all = append_assoc ps (e ∷ []) r in
    let front = ap (λ (z : ℕ). take z (ps ++ e ∷ r)) (sym size) ∙ take-append_seam ps (e ∷ r) in
    ap (λ (z : List Mark). signs_from 0 (pieces_mark n ∷ z)) all
    ∙ (ap (λ (z : List Mark). sign_said (joined_leaf z) ∷ signs_from (suc n) (ps ++ e ∷ r)) front
    ∙ (ap (λ (z : LeafValue). sign_said z ∷ signs_from (suc n) (ps ++ e ∷ r)) joins
    ∙ ap (λ (z : List Sign). sign_said l ∷ z) (ap (λ (z : ℕ). signs_from (suc z) (ps ++ e ∷ r)) (sym size) ∙
    skipped ps)))
  where
    skipped : (ps : List Mark) → signs_from (suc (length ps)) (ps ++ e ∷ r) ≡ signs_from 0 r
    skipped [] = refl
    skipped (p ∷ ps) = skipped ps

-- so where they stand on a tape
pub pieces_at : (others ps bs : List Item) (n : ℕ) → ps ≡ take n others → bs ≡ drop 1 (drop n others) →
    signs_from 0 (pieces_mark n ∷ marks others) ≡ sign_said (joined_leaf (marks ps)) ∷ signs_from 0 (marks bs)
pieces_at others ps bs n front back =
    let f : take n (marks others) ≡ marks ps = take-map mark n others ∙ ap marks (sym front) in
    let one : suc n ≡ n + 1 = omega arith in
    let more = ap (λ (i : ℕ). drop i others) one in
    let b : drop (suc n) (marks others) ≡ marks bs = drop-map mark (suc n) others
    ∙ ap marks (more ∙ (sym (drop-drop 1 n others) ∙ sym back)) in
    ap (λ (z : List Mark). sign_said (joined_leaf z) ∷ signs_from (suc n) (marks others)) f
    ∙ ap (λ (z : List Sign). sign_said (joined_leaf (marks ps)) ∷ z)
    (signs_behind (suc n) (marks others) ∙ ap (signs_from 0) b)

-- the signs of a tape are those of its value
mutual
  pub signs_of_tape : (k : Kept) (r : List Mark) → signs_from 0 (tape_of k ++ r) ≡ signs_of (value_of k) ++ signs_from 0 r
  signs_of_tape (kept_leaf l) r = refl
  signs_of_tape (kept_string s o os) r = pieces_sign (map (λ y. leaf_mark (string s y)) (o ∷ os)) (suc (length os)) _ _ r
      (length-map (o ∷ os) (λ y. leaf_mark (string s y))) (string_joined s o os)
  signs_of_tape (kept_bits b bs) r = pieces_sign (map (λ y. leaf_mark (bits y)) (b ∷ bs)) (suc (length bs)) _ _ r
      (length-map (b ∷ bs) (λ y. leaf_mark (bits y))) (ap (λ (z : List Bool). bits (b ++ z)) (bits_joined bs))
  signs_of_tape (kept_row ks) r =
      let n = length (tapes_of ks) in
      ap (λ (z : List Sign). bracket signs.Open ∷ z)
      (ap (signs_from 0) (append_assoc (tapes_of ks) (end_mark n ∷ []) r)
      ∙ (signs_of_tapes ks (end_mark n ∷ r)
      ∙ sym (append_assoc (signs_of_row (values_of ks)) (bracket signs.Close ∷ []) (signs_from 0 r))))
  signs_of_tape (kept_chosen k v) r =
      ap (λ (z : List Sign). bracket (signs.Arm k) ∷ z)
      (ap (signs_from 0) (append_assoc (tape_of v) (arm_end_mark k ∷ []) r)
      ∙ (signs_of_tape v (arm_end_mark k ∷ r)
      ∙ sym (append_assoc (signs_of (value_of v)) (bracket (signs.ArmEnd k) ∷ []) (signs_from 0 r))))

  signs_of_tapes : (ks : KeptRow) (r : List Mark) →
      signs_from 0 (tapes_of ks ++ r) ≡ signs_of_row (values_of ks) ++ signs_from 0 r
  signs_of_tapes kept_none r = refl
  signs_of_tapes (kept_absent ks) r = ap (λ (z : List Sign). bracket signs.Gone ∷ z) (signs_of_tapes ks r)
  signs_of_tapes (kept_more k ks) r = ap (signs_from 0) (append_assoc (tape_of k) (tapes_of ks) r)
      ∙ (signs_of_tape k (tapes_of ks ++ r)
      ∙ (ap (λ (z : List Sign). signs_of (value_of k) ++ z) (signs_of_tapes ks r)
      ∙ sym (append_assoc (signs_of (value_of k)) (signs_of_row (values_of ks)) (signs_from 0 r))))

-- Signs are those of one value.
not_gone : (v : Value) (r s : List Sign) → signs_of v ++ r ≡ bracket signs.Gone ∷ s → ⊥
not_gone (leaf l) r s e = absurd (cc)
not_gone (row vs) r s e = absurd (cc)
not_gone (chosen k v) r s e = absurd (cc)

not_close : (v : Value) (r s : List Sign) → signs_of v ++ r ≡ bracket signs.Close ∷ s → ⊥
not_close (leaf l) r s e = absurd (cc)
not_close (row vs) r s e = absurd (cc)
not_close (chosen k v) r s e = absurd (cc)

behind : (x y : Sign) (inner r : List Sign) → (x ∷ (inner ++ y ∷ [])) ++ r ≡ x ∷ (inner ++ y ∷ r)
behind x y inner r = ap (λ (z : List Sign). x ∷ z) (append_assoc inner (y ∷ []) r)

mutual
  pub one_value_of : (v w : Value) (r s : List Sign) → signs_of v ++ r ≡ signs_of w ++ s → (v ≡ w) × (r ≡ s)
  one_value_of (leaf l) (leaf m) r s e = (cc, cc)
  one_value_of (leaf l) (row ws) r s e = absurd (cc)
  one_value_of (leaf l) (chosen j w) r s e = absurd (cc)
  one_value_of (row vs) (leaf m) r s e = absurd (cc)
  one_value_of (row vs) (row ws) r s e =
      let f = sym (behind (bracket signs.Open) (bracket signs.Close) (signs_of_row vs) r) ∙ (e
      ∙ behind (bracket signs.Open) (bracket signs.Close) (signs_of_row ws) s) in
      let g : signs_of_row vs ++ bracket signs.Close ∷ r ≡ signs_of_row ws ++ bracket signs.Close ∷ s = cc in
      let u = one_row_of vs ws r s g in
      (ap row u.0, u.1)
  one_value_of (row vs) (chosen j w) r s e = absurd (cc)
  one_value_of (chosen k v) (leaf m) r s e = absurd (cc)
  one_value_of (chosen k v) (row ws) r s e = absurd (cc)
  one_value_of (chosen k v) (chosen j w) r s e =
      let f = sym (behind (bracket (signs.Arm k)) (bracket (signs.ArmEnd k)) (signs_of v) r) ∙ (e
      ∙ behind (bracket (signs.Arm j)) (bracket (signs.ArmEnd j)) (signs_of w) s) in
      let a : k ≡ j = cc in
      let g : signs_of v ++ bracket (signs.ArmEnd k) ∷ r ≡ signs_of w ++ bracket (signs.ArmEnd j) ∷ s = cc in
      let u = one_value_of v w (bracket (signs.ArmEnd k) ∷ r) (bracket (signs.ArmEnd j) ∷ s) g in
      let h = u.1 in
      let b = u.0 in
      (cc, cc)

  one_row_of : (vs ws : Values) (r s : List Sign) →
      signs_of_row vs ++ bracket signs.Close ∷ r ≡ signs_of_row ws ++ bracket signs.Close ∷ s → (vs ≡ ws) × (r ≡ s)
  one_row_of none none r s e = (refl, cc)
  one_row_of none (absent ws) r s e = absurd (cc)
  one_row_of none (more w ws) r s e = absurd (not_close w (signs_of_row ws ++ bracket signs.Close ∷ s) r
      (sym (append_assoc (signs_of w) (signs_of_row ws) (bracket signs.Close ∷ s)) ∙ sym e))
  one_row_of (absent vs) none r s e = absurd (cc)
  one_row_of (absent vs) (absent ws) r s e =
      let f : signs_of_row vs ++ bracket signs.Close ∷ r ≡ signs_of_row ws ++ bracket signs.Close ∷ s = cc in
      let u = one_row_of vs ws r s f in
      (ap absent u.0, u.1)
  one_row_of (absent vs) (more w ws) r s e = absurd (not_gone w (signs_of_row ws ++ bracket signs.Close ∷ s)
      (signs_of_row vs ++ bracket signs.Close ∷ r)
      (sym (append_assoc (signs_of w) (signs_of_row ws) (bracket signs.Close ∷ s)) ∙ sym e))
  one_row_of (more v vs) none r s e = absurd (not_close v (signs_of_row vs ++ bracket signs.Close ∷ r) s
      (sym (append_assoc (signs_of v) (signs_of_row vs) (bracket signs.Close ∷ r)) ∙ e))
  one_row_of (more v vs) (absent ws) r s e = absurd (not_gone v (signs_of_row vs ++ bracket signs.Close ∷ r)
      (signs_of_row ws ++ bracket signs.Close ∷ s)
      (sym (append_assoc (signs_of v) (signs_of_row vs) (bracket signs.Close ∷ r)) ∙ e))
  one_row_of (more v vs) (more w ws) r s e =
      let u = one_value_of v w (signs_of_row vs ++ bracket signs.Close ∷ r) (signs_of_row ws ++ bracket signs.Close ∷ s)
      (sym (append_assoc (signs_of v) (signs_of_row vs) (bracket signs.Close ∷ r)) ∙ (e
      ∙ append_assoc (signs_of w) (signs_of_row ws) (bracket signs.Close ∷ s))) in
      let t = one_row_of vs ws r s u.1 in
      let a = u.0 in
      let b = t.0 in
      (cc, t.1)

-- so the signs of two tapes are the same just where the values are
whole_signs : (k : Kept) → signs_from 0 (tape_of k) ≡ signs_of (value_of k) ++ []
whole_signs k = ap (signs_from 0) (sym (append-nil (tape_of k))) ∙ signs_of_tape k []

pub same_values : (k l : Kept) → signs_from 0 (tape_of k) ≡ signs_from 0 (tape_of l) → value_of k ≡ value_of l
same_values k l e = (one_value_of (value_of k) (value_of l) [] [] (sym (whole_signs k) ∙ (e ∙ whole_signs l))).0

pub same_tapes : (k l : Kept) → value_of k ≡ value_of l → signs_from 0 (tape_of k) ≡ signs_from 0 (tape_of l)
same_tapes k l e = whole_signs k ∙ (ap (λ (v : Value). signs_of v ++ []) e ∙ sym (whole_signs l))
