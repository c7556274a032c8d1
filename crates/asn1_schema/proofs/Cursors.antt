-- A value ends where its first marks say.
use Rattle.std.proofs.Common.{◌≡◌, ◌∙◌, ap, sym, refl, ℕ, suc, ◌+◌, List, [], ◌∷◌, ◌++◌, append_assoc, length, arith, take, drop, min}
use Rattle.std.specs.Prelude.{map}
use Rattle.std.proofs.lemmas.List.{length-map, length-append, take-map, drop-map}
use Rattle.std.proofs.Math.Seq.{take-append_seam, drop-append_seam, take-nil, drop-nil}
use Rattle.asn1_schema.specs.Values.{bits}
use Rattle.asn1_schema.specs.declared.tape.Item.{Item}
use Rattle.asn1_schema.specs.Tape.{Kept, KeptRow, kept_none, kept_absent, kept_more, kept_leaf, kept_string, kept_bits, kept_row, kept_chosen, string, Mark, mark, marks}
use Rattle.asn1_schema.specs.Tape.{leaf_mark, absent_mark, arm_end_mark, end_mark, pieces_end_mark, tape_of, tapes_of}
use Rattle.asn1_schema.specs.Cursor.{marks_of_first, field_marks}

pub first_is : (kept : Kept) (rest : List Mark) → marks_of_first (tape_of kept ++ rest) ≡ length (tape_of kept)
first_is (kept_leaf l) rest = refl
first_is (kept_string s o os) rest =
    let l = length-map os (λ y. leaf_mark (string s y)) in
    let m =
    length-append (map (λ y. leaf_mark (string s y)) (o ∷ os)) (pieces_end_mark (suc (length os)) ∷ []) in
    omega (arith, l, m)
first_is (kept_bits b bs) rest =
    let l = length-map bs (λ y. leaf_mark (bits y)) in
    let m = length-append (map (λ y. leaf_mark (bits y)) (b ∷ bs)) (pieces_end_mark (suc (length bs)) ∷ []) in
    omega (arith, l, m)
first_is (kept_row ks) rest =
    let m = length-append (tapes_of ks) (end_mark (length (tapes_of ks)) ∷ []) in omega (arith, m)
first_is (kept_chosen k v) rest =
    let e = first_is v (arm_end_mark k ∷ rest) in
    let a = ap marks_of_first (append_assoc (tape_of v) (arm_end_mark k ∷ []) rest) in
    let m = length-append (tape_of v) (arm_end_mark k ∷ []) in
    omega (arith, e, a, m)

-- what is cut off there is the value
module _ (xs : List Item) (kept : Kept) (rest : List Mark) (e : marks xs ≡ tape_of kept ++ rest) where
  few_marks : length (tape_of kept) + length rest ≡ length xs
  few_marks =
      let l = length-map xs mark in
      let m = length-append (tape_of kept) rest in
      let n = ap (λ (ms : List Mark). length ms) e in
      omega (arith, l, m, n)

  value_taken : (n : ℕ) → n ≡ length (tape_of kept) → marks (take n xs) ≡ tape_of kept
  value_taken n is = sym (take-map mark n xs) ∙ ap (λ (ms : List Mark). take n ms) e
      ∙ ap (λ (i : ℕ). take i (tape_of kept ++ rest)) is ∙ take-append_seam (tape_of kept) rest

  rest_left : (n : ℕ) → n ≡ length (tape_of kept) → marks (drop n xs) ≡ rest
  rest_left n is = sym (drop-map mark n xs) ∙ ap (λ (ms : List Mark). drop n ms) e
      ∙ ap (λ (i : ℕ). drop i (tape_of kept ++ rest)) is ∙ drop-append_seam (tape_of kept) rest

  -- so it is where no more is cut off than there is
  pub value_truncated : (n : ℕ) → n ≡ min (marks_of_first (marks xs)) (length xs) →
      (marks (take n xs) ≡ tape_of kept) × (marks (drop n xs) ≡ rest)
  value_truncated n least =
      let first = ap marks_of_first e ∙ first_is kept rest in
      let few = few_marks in
      let is : n ≡ length (tape_of kept) = omega (arith, least, first, few) in
      (value_taken n is, rest_left n is)

-- so of a field that is left out, which has one mark
module _ (xs : List Item) (rest : List Mark) (e : marks xs ≡ absent_mark ∷ rest) where
  pub absent_truncated : (n : ℕ) → n ≡ min (marks_of_first (marks xs)) (length xs) →
      (marks (take n xs) ≡ absent_mark ∷ []) × (marks (drop n xs) ≡ rest)
  absent_truncated n least =
      let l = length-map xs mark in
      let all = ap (λ (ms : List Mark). length ms) e in
      let first = ap marks_of_first e in
      let is : n ≡ 1 = omega (arith, least, first, l, all) in (
        sym (take-map mark n xs) ∙ ap (λ (ms : List Mark). take n ms) e
            ∙ ap (λ (i : ℕ). take i (absent_mark ∷ rest)) is,
        sym (drop-map mark n xs) ∙ ap (λ (ms : List Mark). drop n ms) e
            ∙ ap (λ (i : ℕ). drop i (absent_mark ∷ rest)) is,
      )

-- The field at the front of a row, and the row of the others.
module _ (items front back : List Item) (ks : KeptRow) (e : marks items ≡ tapes_of ks)
    (value : (kept : Kept) (rest : List Mark) → marks items ≡ tape_of kept ++ rest → marks front ≡ tape_of kept)
    (others : (kept : Kept) (rest : List Mark) → marks items ≡ tape_of kept ++ rest → marks back ≡ rest)
    (left_out : (rest : List Mark) → marks items ≡ absent_mark ∷ rest →
    (marks front ≡ absent_mark ∷ []) × (marks back ≡ rest))
    (none : marks items ≡ [] → (marks front ≡ []) × (marks back ≡ [])) where
  pub this_field : marks front ≡ field_marks ks 0
  this_field = by_row ks e
    where
      by_row : (ks : KeptRow) → marks items ≡ tapes_of ks → marks front ≡ field_marks ks 0
      by_row kept_none e = (none e).0
      by_row (kept_absent ms) e = (left_out (tapes_of ms) e).0
      by_row (kept_more k ms) e = value k (tapes_of ms) e

  pub next_fields : (ms : KeptRow) × (marks back ≡ tapes_of ms) × ((j : ℕ) → field_marks ks (suc j) ≡ field_marks ms j)
  next_fields = by_row ks e
    where
      by_row : (ks : KeptRow) → marks items ≡ tapes_of ks →
          (ms : KeptRow) × (marks back ≡ tapes_of ms) × ((j : ℕ) → field_marks ks (suc j) ≡ field_marks ms j)
      by_row kept_none e = (kept_none, (none e).1, λ j. refl)
      by_row (kept_absent ms) e = (ms, (left_out (tapes_of ms) e).1, λ j. refl)
      by_row (kept_more k ms) e = (ms, others k (tapes_of ms) e, λ j. refl)

-- and where there are none
pub none_taken : (xs : List Item) (n : ℕ) → marks xs ≡ [] → (marks (take n xs) ≡ []) × (marks (drop n xs) ≡ [])
none_taken [] n e = (ap (λ (ys : List Item). marks ys) (take-nil n), ap (λ (ys : List Item). marks ys) (drop-nil n))
none_taken (x ∷ xs) n e = absurd (cc (e))
