-- Values in a row are counted.
use Rattle.std.proofs.Common.{◌≡◌, ◌≢◌, ◌∙◌, ap, sym, refl, ℕ, zero, suc, ◌+◌, ◌-◌, List, [], ◌∷◌, ◌++◌, append_assoc, length, arith, length-append, append-nil}
use Rattle.std.specs.Prelude.{map}
use Rattle.std.proofs.lemmas.List.{length-map, take-map, drop-map}
use Rattle.std.proofs.Common.{take, drop}
use Rattle.std.proofs.Math.Seq.{drop-append-add, take-append_seam}
use Rattle.asn1_schema.specs.Values.{LeafValue, bits, count}
use Rattle.asn1_schema.specs.Counting.{one_more, values_from}
use Rattle.asn1_schema.specs.Tape.{Kept, KeptRow, kept_leaf, kept_string, kept_bits, kept_row, kept_chosen, kept_none, kept_absent, kept_more, string}
use Rattle.asn1_schema.specs.declared.tape.Item.{Item}
use Rattle.asn1_schema.specs.declared.tape.Item.TheVariants as items
use Rattle.asn1_schema.specs.Tape.{Mark, mark, marks, absent_mark, leaf_mark, arm_mark, arm_end_mark, begin_mark, end_mark, pieces_mark, pieces_end_mark, tape_of, tapes_of, values_of}

-- a value begins
pub value_first : (v arms within : ℕ) (ms : List Mark) → arms ≡ 0 →
    v + one_more arms (values_from arms within ms) ≡ (v + 1) + values_from arms within ms
value_first v zero within ms e = omega arith
value_first v (suc arms) within ms e = absurd (omega (arith, e))

pub value_later : (v arms within : ℕ) (ms : List Mark) → arms ≢ 0 →
    v + one_more arms (values_from arms within ms) ≡ v + values_from arms within ms
value_later v zero within ms e = absurd (e refl)
value_later v (suc arms) within ms e = refl

-- an arm ends
pub no_arm_ends : (v arms k : ℕ) (ms : List Mark) → arms ≡ 0 →
    v + values_from arms 0 (arm_end_mark k ∷ ms) ≡ v + values_from arms 0 ms
no_arm_ends v zero k ms e = refl
no_arm_ends v (suc arms) k ms e = absurd (omega (arith, e))

pub arm_ends : (v arms k : ℕ) (ms : List Mark) → arms ≢ 0 →
    v + values_from arms 0 (arm_end_mark k ∷ ms) ≡ v + one_more (arms - 1) (values_from (arms - 1) 0 ms)
arm_ends v zero k ms e = absurd (e refl)
arm_ends v (suc arms) k ms e =
    let z : arms ≡ suc arms - 1 = omega arith in
    ap (λ (a : ℕ). v + one_more a (values_from a 0 ms)) z

-- an item belongs to the value before
pub item_within : (v arms within : ℕ) (m : Mark) (ms : List Mark) → within ≢ 0 →
    v + values_from arms within (m ∷ ms) ≡ v + values_from arms (within - 1) ms
item_within v arms zero m ms e = absurd (e refl)
item_within v arms (suc within) m ms e =
    let z : within ≡ suc within - 1 = omega arith in
    ap (λ (w : ℕ). v + values_from arms w ms) z

-- what neither holds others nor ends them is a value, but for a field that is left out
pub leaf_of : (i : Item) → ((n : ℕ) → i ≡ items.Begin n → ⊥) → ((n : ℕ) → i ≡ items.End n → ⊥) →
    (i ≡ items.Absent → ⊥) → ((n : ℕ) → i ≡ items.Arm n → ⊥) → ((n : ℕ) → i ≡ items.ArmEnd n → ⊥) →
    ((n : ℕ) → i ≡ items.Pieces n → ⊥) → ((n : ℕ) → i ≡ items.PiecesEnd n → ⊥) → (l : LeafValue) ×
    (mark i ≡ leaf_mark l)
leaf_of (items.Begin n) a b c d e f g = absurd (a n refl)
leaf_of (items.End n) a b c d e f g = absurd (b n refl)
leaf_of items.Absent a b c d e f g = absurd (c refl)
leaf_of (items.Arm n) a b c d e f g = absurd (d n refl)
leaf_of (items.ArmEnd n) a b c d e f g = absurd (e n refl)
leaf_of (items.Pieces n) a b c d e f g = absurd (f n refl)
leaf_of (items.PiecesEnd n) a b c d e f g = absurd (g n refl)
leaf_of _ a b c d e f g = (_, refl)

-- one item more, by what it is
module _ (v arms within : ℕ) (i : Item) (none : within ≡ 0) where
  next_is : (m : Mark) (ms : List Mark) → mark i ≡ m →
      v + values_from arms within (mark i ∷ ms) ≡ v + values_from arms 0 (m ∷ ms)
  next_is m ms e = ap (λ (w : ℕ). v + values_from arms w (mark i ∷ ms)) none
      ∙ ap (λ (n : Mark). v + values_from arms 0 (n ∷ ms)) e

  pub leaf_next : (l : LeafValue) (ms : List Mark) → mark i ≡ leaf_mark l →
      v + values_from arms within (mark i ∷ ms) ≡ v + one_more arms (values_from arms 0 ms)
  leaf_next l ms e = next_is (leaf_mark l) ms e

  pub begin_next : (n k : ℕ) (ms : List Mark) → mark i ≡ begin_mark n → suc n ≡ k →
      v + values_from arms within (mark i ∷ ms) ≡ v + one_more arms (values_from arms k ms)
  begin_next n k ms e z = next_is (begin_mark n) ms e ∙ ap (λ (w : ℕ). v + one_more arms (values_from arms w ms)) z

  pub pieces_next : (n k : ℕ) (ms : List Mark) → mark i ≡ pieces_mark n → suc n ≡ k →
      v + values_from arms within (mark i ∷ ms) ≡ v + one_more arms (values_from arms k ms)
  pieces_next n k ms e z = next_is (pieces_mark n) ms e ∙ ap (λ (w : ℕ). v + one_more arms (values_from arms w ms)) z

  pub arm_next : (k b : ℕ) (ms : List Mark) → mark i ≡ arm_mark k → suc arms ≡ b →
      v + values_from arms within (mark i ∷ ms) ≡ v + values_from b 0 ms
  arm_next k b ms e z = next_is (arm_mark k) ms e ∙ ap (λ (a : ℕ). v + values_from a 0 ms) z

  pub arm_end_next : (k : ℕ) (ms : List Mark) → mark i ≡ arm_end_mark k →
      v + values_from arms within (mark i ∷ ms) ≡ v + values_from arms 0 (arm_end_mark k ∷ ms)
  arm_end_next k ms e = next_is (arm_end_mark k) ms e

  pub end_next : (n : ℕ) (ms : List Mark) → mark i ≡ end_mark n →
      v + values_from arms within (mark i ∷ ms) ≡ v + values_from arms within ms
  end_next n ms e = next_is (end_mark n) ms e ∙ ap (λ (w : ℕ). v + values_from arms w ms) (sym none)

  pub pieces_end_next : (n : ℕ) (ms : List Mark) → mark i ≡ pieces_end_mark n →
      v + values_from arms within (mark i ∷ ms) ≡ v + values_from arms within ms
  pieces_end_next n ms e = next_is (pieces_end_mark n) ms e ∙ ap (λ (w : ℕ). v + values_from arms w ms) (sym none)

  pub absent_next : (ms : List Mark) → mark i ≡ absent_mark →
      v + values_from arms within (mark i ∷ ms) ≡ v + values_from arms within ms
  absent_next ms e = next_is absent_mark ms e ∙ ap (λ (w : ℕ). v + values_from arms w ms) (sym none)

-- marks of a value are passed over
passed : (arms : ℕ) (xs r : List Mark) → values_from arms (length xs) (xs ++ r) ≡ values_from arms 0 r
passed arms [] r = refl
passed arms (x ∷ xs) r = passed arms xs r

passed_between : (arms n : ℕ) (inner r : List Mark) (last : Mark) → n ≡ length inner →
    values_from arms (suc n) ((inner ++ last ∷ []) ++ r) ≡ values_from arms 0 r
passed_between arms n inner r last e =
    let l = length-append inner (last ∷ []) in
    let k : suc n ≡ length (inner ++ last ∷ []) = omega (arith, l, e) in
    ap (λ (w : ℕ). values_from arms w ((inner ++ last ∷ []) ++ r)) k ∙ passed arms (inner ++ last ∷ []) r

-- the tape of a value counts one
mutual
  counted_tape : (k : Kept) (arms : ℕ) (r : List Mark) →
      values_from arms 0 (tape_of k ++ r) ≡ one_more arms (values_from arms 0 r)
  counted_tape (kept_leaf l) arms r = refl
  counted_tape (kept_string s o os) arms r =
      let l = length-map os (λ y. leaf_mark (string s y)) in
      ap (one_more arms) (passed_between arms (suc (length os)) (map (λ y. leaf_mark (string s y)) (o ∷ os)) r
      (pieces_end_mark (suc (length os))) (omega (arith, l)))
  counted_tape (kept_bits b bs) arms r =
      let l = length-map bs (λ y. leaf_mark (bits y)) in
      ap (one_more arms) (passed_between arms (suc (length bs)) (map (λ y. leaf_mark (bits y)) (b ∷ bs)) r
      (pieces_end_mark (suc (length bs))) (omega (arith, l)))
  counted_tape (kept_row ks) arms r =
      ap (one_more arms) (passed_between arms (length (tapes_of ks)) (tapes_of ks) r (end_mark (length (tapes_of ks))) refl)
  counted_tape (kept_chosen k v) arms r =
      ap (values_from (suc arms) 0) (append_assoc (tape_of v) (arm_end_mark k ∷ []) r)
      ∙ counted_tape v (suc arms) (arm_end_mark k ∷ r)

  counted_row : (ks : KeptRow) (r : List Mark) → values_from 0 0 (tapes_of ks ++ r) ≡ count (values_of ks) + values_from 0 0 r
  counted_row kept_none r = omega arith
  counted_row (kept_absent ks) r = counted_row ks r
  counted_row (kept_more k ks) r =
      let others = counted_row ks r in
      let one : suc (values_from 0 0 (tapes_of ks ++ r)) ≡ suc (count (values_of ks)) + values_from 0 0 r =
      omega (arith, others) in
      ap (values_from 0 0) (append_assoc (tape_of k) (tapes_of ks) r)
      ∙ (counted_tape k 0 (tapes_of ks ++ r) ∙ one)

-- so many values stand in a row
pub count_of_row : (ks : KeptRow) → values_from 0 0 (tapes_of ks) ≡ count (values_of ks)
count_of_row ks =
    let e = counted_row ks [] in
    let z : values_from 0 0 (tapes_of ks ++ []) ≡ count (values_of ks) = omega (arith, e) in
    ap (values_from 0 0) (sym (append-nil (tapes_of ks))) ∙ z

-- what stands between the first mark and the last one
pub inner_marks : (xs : List Item) (front inner : List Mark) (first last : Mark) (k : ℕ) →
    marks xs ≡ front ++ first ∷ (inner ++ last ∷ []) → k ≡ length front + 1 →
    marks (take (length xs - 1 - k) (drop k xs)) ≡ inner
inner_marks xs front inner first last k e p =
    let whole = length-append front (first ∷ (inner ++ last ∷ [])) in
    let behind = length-append inner (last ∷ []) in
    let all = ap (λ (ms : List Mark). length ms) e in
    let same = length-map xs mark in
    let n : length xs - 1 - k ≡ length inner = omega (arith, whole, behind, all, same, p) in
    sym (take-map mark (length xs - 1 - k) (drop k xs))
    ∙ ap (λ (ms : List Mark). take (length xs - 1 - k) ms) (sym (drop-map mark k xs))
    ∙ ap (λ (ms : List Mark). take (length xs - 1 - k) (drop k ms)) e
    ∙ ap (λ (j : ℕ). take (length xs - 1 - k) (drop j (front ++ first ∷ (inner ++ last ∷ [])))) p
    ∙ ap (λ (ms : List Mark). take (length xs - 1 - k) ms) (drop-append-add front (first ∷ (inner ++ last ∷ [])) 1)
    ∙ ap (λ (j : ℕ). take j (inner ++ last ∷ [])) n
    ∙ take-append_seam inner (last ∷ [])
