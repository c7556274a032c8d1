-- Members that are counted one by one.
use Rattle.std.proofs.Common.{◌≡◌, ◌∙◌, ap, sym, subst, refl, ℕ, zero, suc, ◌+◌, ◌<◌, ◌≤◌, List, [], ◌∷◌, ◌++◌, length, length-append, arith}
use Rattle.std.proofs.lemmas.List.{length-map}
use Rattle.asn1_schema.specs.declared.tape.Item.{Item}
use Rattle.asn1_schema.specs.Tape.{Kept, KeptRow, kept_none, kept_absent, kept_more, mark, marks, tape_of, tapes_of, values_of}
use Rattle.asn1_schema.specs.Writing.{member_count, row_behind}
use Rattle.asn1_schema.proofs.LastMarks.{ends, front_kept, last_kept}

-- behind one field more
pub one_behind : (n : ℕ) (ks : KeptRow) → row_behind 1 (row_behind n ks) ≡ row_behind (n + 1) ks
one_behind n ks =
    let next : suc n ≡ n + 1 = omega arith in
    subst (λ (m : ℕ). row_behind 1 (row_behind n ks) ≡ row_behind m ks) next (by_count n ks)
  where
    by_count : (n : ℕ) (ks : KeptRow) → row_behind 1 (row_behind n ks) ≡ row_behind (suc n) ks
    by_count zero ks = refl
    by_count (suc n) kept_none = refl
    by_count (suc n) (kept_absent ks) = by_count n ks
    by_count (suc n) (kept_more k ks) = by_count n ks

-- each member has a mark
some_marks : (k : Kept) → 0 < length (tape_of k)
some_marks k =
    let e = ap length (ends (tape_of k) [] k refl) in
    let l = length-append ([] ++ front_kept k) (last_kept k ∷ []) in
    omega (arith, e, l)

pub few_members : (ks : KeptRow) → member_count (values_of ks) ≤ length (tapes_of ks)
few_members kept_none = omega arith
few_members (kept_absent ks) = let i = few_members ks in omega (arith, i)
few_members (kept_more k ks) =
    let i = few_members ks in
    let s = some_marks k in
    let l = length-append (tape_of k) (tapes_of ks) in
    omega (arith, i, s, l)

-- one member fewer stands behind the first one
one_fewer : (ks : KeptRow) → 0 < length (tapes_of ks) →
    member_count (values_of ks) ≡ suc (member_count (values_of (row_behind 1 ks)))
one_fewer kept_none l = absurd (omega (arith, l))
one_fewer (kept_absent ks) l = refl
one_fewer (kept_more k ks) l = refl

module _ (items rest : List Item) (n : ℕ) (kept : KeptRow) (is : marks items ≡ tapes_of kept)
    (left : marks rest ≡ tapes_of (row_behind n kept))
    (counted : member_count (values_of kept) ≡ n + member_count (values_of (row_behind n kept))) where
  size : length rest ≡ length (tapes_of (row_behind n kept))
  size = sym (length-map rest mark) ∙ ap length left

  pub member_counted : 0 < length rest →
      member_count (values_of kept) ≡ (n + 1) + member_count (values_of (row_behind (n + 1) kept))
  member_counted some =
      let s = size in
      let f = one_fewer (row_behind n kept) (omega (arith, some, s)) in
      let e = ap (λ (ks : KeptRow). member_count (values_of ks)) (one_behind n kept) in
      omega (arith, counted, f, e)

  pub none_left : length rest ≡ 0 → n ≡ member_count (values_of kept)
  none_left z =
      let s = size in
      let f = few_members (row_behind n kept) in
      omega (arith, counted, s, f, z)

  pub all_counted : length items ≤ n → n ≡ member_count (values_of kept)
  all_counted l =
      let s = sym (length-map items mark) ∙ ap length is in
      let f = few_members kept in
      omega (arith, counted, f, s, l)
