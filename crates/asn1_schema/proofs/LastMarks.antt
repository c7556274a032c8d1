-- The last marks of values, and rows at the end of a tape.
use Rattle.std.proofs.Common.{◌≡◌, ◌∙◌, ap, sym, refl, ℕ, suc, Bool, true, false, List, [], ◌∷◌, ◌++◌, append_assoc, append-nil, length, arith}
use Rattle.std.specs.Prelude.{map}
use Rattle.asn1_schema.specs.Values.{LeafValue, octets, text, time, bits}
use Rattle.asn1_schema.specs.Values.{Value, Values, leaf, row, chosen, joined}
use Rattle.asn1_schema.specs.Tape.{of_octets, of_text, of_time, string, Kept, KeptRow, kept_leaf, kept_string, kept_bits, kept_row, kept_chosen, kept_none, kept_absent, kept_more}
use Rattle.asn1_schema.specs.Tape.{Mark, leaf_mark, begin_mark, end_mark, absent_mark, arm_mark, arm_end_mark, pieces_mark, pieces_end_mark, tape_of, tapes_of, value_of, values_of}
use Rattle.asn1_schema.specs.Writing.{member_count}
use Rattle.asn1_schema.proofs.OneTape.{one_tape_back}
use Rattle.asn1_schema.proofs.SameParts.{same_last}

-- the last mark of a value, and those before it
abbrev pub last_kept : Kept → Mark
last_kept (kept_leaf l) = leaf_mark l
last_kept (kept_string s o os) = pieces_end_mark (suc (length os))
last_kept (kept_bits b bs) = pieces_end_mark (suc (length bs))
last_kept (kept_row ks) = end_mark (length (tapes_of ks))
last_kept (kept_chosen k v) = arm_end_mark k

abbrev pub front_kept : Kept → List Mark
front_kept (kept_leaf l) = []
front_kept (kept_string s o os) = pieces_mark (suc (length os)) ∷ map (λ y. leaf_mark (string s y)) (o ∷ os)
front_kept (kept_bits b bs) = pieces_mark (suc (length bs)) ∷ map (λ y. leaf_mark (bits y)) (b ∷ bs)
front_kept (kept_row ks) = begin_mark (length (tapes_of ks)) ∷ tapes_of ks
front_kept (kept_chosen k v) = arm_mark k ∷ tape_of v

kept_ends : (k : Kept) → tape_of k ≡ front_kept k ++ last_kept k ∷ []
kept_ends (kept_leaf l) = refl
kept_ends (kept_string s o os) = refl
kept_ends (kept_bits b bs) = refl
kept_ends (kept_row ks) = refl
kept_ends (kept_chosen k v) = refl

-- a tape that ends with that of a value ends with its last mark
pub ends : (tape rest : List Mark) (k : Kept) → tape ≡ rest ++ tape_of k →
    tape ≡ (rest ++ front_kept k) ++ last_kept k ∷ []
ends tape rest k e = e ∙ (ap (λ (z : List Mark). rest ++ z) (kept_ends k)
    ∙ sym (append_assoc rest (front_kept k) (last_kept k ∷ [])))

-- leaves that no pieces are
abbrev pub is_whole : LeafValue → Bool
is_whole (octets o) = false
is_whole (text kind o) = false
is_whole (time kind o) = false
is_whole (bits bs) = false
is_whole _ = true

pub whole_kept : (k : Kept) (l : LeafValue) → is_whole l ≡ true → value_of k ≡ leaf l → k ≡ kept_leaf l
whole_kept (kept_leaf m) l w e = cc
whole_kept (kept_string of_octets o os) l w e = absurd (let f = same_leaf (octets (joined (o ∷ os))) l e in cc)
  where
    same_leaf : (m l : LeafValue) → leaf m ≡ leaf l → m ≡ l
    same_leaf m l e = cc
whole_kept (kept_string (of_text j) o os) l w e = absurd (let f = same_leaf (text j (joined (o ∷ os))) l e in cc)
  where
    same_leaf : (m l : LeafValue) → leaf m ≡ leaf l → m ≡ l
    same_leaf m l e = cc
whole_kept (kept_string (of_time j) o os) l w e = absurd (let f = same_leaf (time j (joined (o ∷ os))) l e in cc)
  where
    same_leaf : (m l : LeafValue) → leaf m ≡ leaf l → m ≡ l
    same_leaf m l e = cc
whole_kept (kept_bits o os) l w e = absurd (let f = same_leaf (bits (joined (o ∷ os))) l e in cc)
  where
    same_leaf : (m l : LeafValue) → leaf m ≡ leaf l → m ≡ l
    same_leaf m l e = cc
whole_kept (kept_row ks) l w e = absurd (cc)
whole_kept (kept_chosen k v) l w e = absurd (cc)

pub row_kept : (k : Kept) (vs : Values) → value_of k ≡ row vs → (ks : KeptRow) × (k ≡ kept_row ks) × (values_of ks ≡ vs)
row_kept (kept_leaf l) vs e = absurd (cc)
row_kept (kept_string s o os) vs e = absurd (cc)
row_kept (kept_bits o os) vs e = absurd (cc)
row_kept (kept_row ks) vs e = (ks, refl, cc)
row_kept (kept_chosen k v) vs e = absurd (cc)

pub chosen_kept : (k : Kept) (n : ℕ) (w : Value) → value_of k ≡ chosen n w →
    (j : Kept) × (k ≡ kept_chosen n j) × (value_of j ≡ w)
chosen_kept (kept_leaf l) n w e = absurd (cc)
chosen_kept (kept_string s o os) n w e = absurd (cc)
chosen_kept (kept_bits o os) n w e = absurd (cc)
chosen_kept (kept_row ks) n w e = absurd (cc)
chosen_kept (kept_chosen k v) n w e = (v, (let f : k ≡ n = cc in ap (λ (z : ℕ). kept_chosen z v) f), cc)

-- no value ends with what is left out
pub not_absent_back : (k : Kept) (r s : List Mark) → r ++ tape_of k ≡ s ++ absent_mark ∷ [] → ⊥
not_absent_back k r s e =
    let u = same_last (r ++ front_kept k) s (last_kept k) absent_mark
    (sym (ends (r ++ tape_of k) r k refl) ∙ e) in
    by_kind k u.1
  where
    by_kind : (k : Kept) → last_kept k ≡ absent_mark → ⊥
    by_kind (kept_leaf l) f = absurd (cc)
    by_kind (kept_string s o os) f = absurd (cc)
    by_kind (kept_bits o os) f = absurd (cc)
    by_kind (kept_row ks) f = absurd (cc)
    by_kind (kept_chosen k v) f = absurd (cc)

-- rows of as many fields at the end of one tape are the same, and stand behind the same
pub rows_back : (ks js : KeptRow) (r s : List Mark) → member_count (values_of ks) ≡ member_count (values_of js) →
    r ++ tapes_of ks ≡ s ++ tapes_of js → (ks ≡ js) × (r ≡ s)
rows_back kept_none kept_none r s n e = (refl, sym (append-nil r) ∙ (e ∙ append-nil s))
rows_back kept_none (kept_absent js) r s n e = absurd (omega (arith, n))
rows_back kept_none (kept_more j js) r s n e = absurd (omega (arith, n))
rows_back (kept_absent ks) kept_none r s n e = absurd (omega (arith, n))
rows_back (kept_more k ks) kept_none r s n e = absurd (omega (arith, n))
rows_back (kept_absent ks) (kept_absent js) r s n e =
    let m : member_count (values_of ks) ≡ member_count (values_of js) = omega (arith, n) in
    let u = rows_back ks js (r ++ absent_mark ∷ []) (s ++ absent_mark ∷ []) m
    (append_assoc r (absent_mark ∷ []) (tapes_of ks) ∙ (e ∙ sym (append_assoc s (absent_mark ∷ []) (tapes_of js)))) in
    (ap kept_absent u.0, (same_last r s absent_mark absent_mark u.1).0)
rows_back (kept_absent ks) (kept_more j js) r s n e =
    let m : member_count (values_of ks) ≡ member_count (values_of js) = omega (arith, n) in
    let u = rows_back ks js (r ++ absent_mark ∷ []) (s ++ tape_of j) m
    (append_assoc r (absent_mark ∷ []) (tapes_of ks) ∙ (e ∙ sym (append_assoc s (tape_of j) (tapes_of js)))) in
    absurd (not_absent_back j s r (sym u.1))
rows_back (kept_more k ks) (kept_absent js) r s n e =
    let m : member_count (values_of ks) ≡ member_count (values_of js) = omega (arith, n) in
    let u = rows_back ks js (r ++ tape_of k) (s ++ absent_mark ∷ []) m
    (append_assoc r (tape_of k) (tapes_of ks) ∙ (e ∙ sym (append_assoc s (absent_mark ∷ []) (tapes_of js)))) in
    absurd (not_absent_back k r s u.1)
rows_back (kept_more k ks) (kept_more j js) r s n e =
    let m : member_count (values_of ks) ≡ member_count (values_of js) = omega (arith, n) in
    let u = rows_back ks js (r ++ tape_of k) (s ++ tape_of j) m
    (append_assoc r (tape_of k) (tapes_of ks) ∙ (e ∙ sym (append_assoc s (tape_of j) (tapes_of js)))) in
    let t = one_tape_back k j r s u.1 in
    let here = t.0 in
    let there = u.0 in
    (cc, t.1)
