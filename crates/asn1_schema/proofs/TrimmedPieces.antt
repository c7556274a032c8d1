-- Zeros are taken off the end of bits in pieces.
use Rattle.std.proofs.Common.{◌≡◌, ◌≢◌, ◌∙◌, ap, sym, refl, ℕ, ◌+◌, ◌-◌, ◌*◌, ◌<◌, ◌≤◌, Bool, true, false, List, [], ◌∷◌, ◌++◌, length, take, arith, append_assoc, append-nil, length-append}
use Rattle.std.specs.Prelude.{map, slice_set, get_or}
use Rattle.std.specs.Borrow.{Bor}
use Rattle.std.proofs.Math.Seq.{take-nil}
use Rattle.std.proofs.lemmas.List.{map-append, length-map, take_more, take_all, length-take-le}
use Rattle.asn1_schema.specs.declared.tape.Item.{Item}
use Rattle.asn1_schema.specs.declared.tape.Item.TheVariants as items
use Rattle.asn1_schema.specs.declared.pieces.Sort.TheVariants as sorts
use Rattle.asn1_schema.specs.Values.{joined}
use Rattle.asn1_schema.specs.Grammar.{trimmed, in_front_of}
use Rattle.asn1_schema.specs.Tape.{Mark, mark, marks}
use Rattle.asn1_schema.specs.Bits.{used_bits, TrimsPieces}
use Rattle.asn1_schema.specs.Pieces.{piece_mark}
use Rattle.asn1_schema.proofs.SameParts.{same_last}
use Rattle.asn1_schema.proofs.BitsTaken.{bits_taken}
use Rattle.asn1_schema.proofs.ClosedRows.{marks_append, set_mark}
use Rattle.asn1_schema.proofs.TakenPieces.{joined_append}

in_front_some : (b : Bool) (xs : List Bool) → xs ≢ [] → in_front_of b xs ≡ b ∷ xs
in_front_some b [] some = absurd (some refl)
in_front_some true (x ∷ xs) some = refl
in_front_some false (x ∷ xs) some = refl

-- where the last bits are zeros they are taken off, and else only others behind them
zeros_behind : (xs ys : List Bool) → trimmed ys ≡ [] → trimmed (xs ++ ys) ≡ trimmed xs
zeros_behind [] ys z = z
zeros_behind (x ∷ xs) ys z = ap (in_front_of x) (zeros_behind xs ys z)

bits_behind : (xs ys : List Bool) → trimmed ys ≢ [] → trimmed (xs ++ ys) ≡ xs ++ trimmed ys
bits_behind [] ys some = refl
bits_behind (x ∷ xs) ys some =
    ap (in_front_of x) (bits_behind xs ys some) ∙ in_front_some x (xs ++ trimmed ys) (λ e. none xs (trimmed ys) some e)
  where
    none : (xs ys : List Bool) → ys ≢ [] → xs ++ ys ≡ [] → ⊥
    none [] ys n e = n e
    none (x ∷ xs) ys n e = absurd (cc (e))

-- the last of some
last_of : (xs : List (List Bool)) → 0 < length xs → (before : List (List Bool)) × (last : List Bool) × (xs ≡ before ++ last ∷ [])
last_of [] some = absurd (omega (arith, some))
last_of (x ∷ []) some = ([], x, refl)
last_of (x ∷ y ∷ ys) some =
    let r = last_of (y ∷ ys) (omega arith) in
    (x ∷ r.0, r.1, ap (λ (z : List (List Bool)). x ∷ z) r.2)

joined_last : (xs : List (List Bool)) (x : List Bool) → joined (xs ++ x ∷ []) ≡ joined xs ++ x
joined_last xs x = joined_append xs (x ∷ []) ∙ ap (λ (z : List Bool). joined xs ++ z) (append-nil x)

-- Pieces up to an end, of which those behind it have zeros alone.
pub record TrimmedSoFar (xs : List Item) (front : List Mark) (bs : List (List Bool)) (end : ℕ) : Type 0 where
  pub left : List (List Bool)
  pub is : marks (take end xs) ≡ front ++ map (piece_mark sorts.Bits) left
  pub trims : trimmed (joined left) ≡ trimmed (joined bs)

pub none_trimmed : (xs : List Item) (front : List Mark) (bs : List (List Bool)) →
    marks xs ≡ front ++ map (piece_mark sorts.Bits) bs → TrimmedSoFar xs front bs (length xs)
none_trimmed xs front bs e = record {
  left = bs;
  is = ap marks (take_all (length xs) xs (omega arith)) ∙ e;
  trims = refl;
}

module _ (xs : List Item) (front : List Mark) (bs : List (List Bool)) (end place : ℕ) (so : TrimmedSoFar xs front bs end)
    (within : end ≤ length xs) (p : place ≡ length front) where
  size : end ≡ length front + length so.left
  size =
      let l : length (marks (take end xs)) ≡ length (front ++ map (piece_mark sorts.Bits) so.left) =
      ap (λ (z : List Mark). length z) so.is in
      let m = length-append front (map (piece_mark sorts.Bits) so.left) in
      let n = length-map so.left (piece_mark sorts.Bits) in
      let k = length-map (take end xs) mark in
      let t = length-take-le end xs within in
      omega (arith, l, m, n, k, t)

  -- none is left
  pub all_trimmed : end ≤ place → TrimsPieces front bs (take place xs)
  all_trimmed over = by_left so.left so.is so.trims (let s = size in omega (arith, s, p, over))
    where
      by_left : (left : List (List Bool)) → marks (take end xs) ≡ front ++ map (piece_mark sorts.Bits) left →
          trimmed (joined left) ≡ trimmed (joined bs) → length left ≡ 0 → TrimsPieces front bs (take place xs)
      by_left [] e t z =
          let s = size in
          let same : place ≡ end = (let n : length so.left ≡ 0 = omega (arith, s, p, over) in omega (arith, s, n, p)) in
          record {
            left = [];
            is = ap (λ (n : ℕ). marks (take n xs)) same ∙ e;
            trims = t;
          }
      by_left (x ∷ left) e t z = absurd (omega (arith, z))

  module _ (some : place < end) (item : Item) (i : item ≡ get_or xs (end - 1) item) where
    -- the last piece, and those before it
    pub record LastPiece : Type 0 where
      pub before : List (List Bool)
      pub last : List Bool
      pub here : mark item ≡ piece_mark sorts.Bits last
      pub others : marks (take (end - 1) xs) ≡ front ++ map (piece_mark sorts.Bits) before
      pub joins : joined so.left ≡ joined before ++ last

    pub last_piece : LastPiece
    last_piece =
        let s = size in
        let r = last_of so.left (omega (arith, s, p, some)) in
        let k : end ≡ (end - 1) + 1 = omega (arith, some) in
        let parted : take end xs ≡ take (end - 1) xs ++ item ∷ [] =
        ap (λ (n : ℕ). take n xs) k ∙ take_more xs (end - 1) item (omega (arith, some, within))
        ∙ ap (λ (y : Item). take (end - 1) xs ++ y ∷ []) (sym i) in
        let whole : marks (take (end - 1) xs) ++ mark item ∷ [] ≡
        (front ++ map (piece_mark sorts.Bits) r.0) ++ piece_mark sorts.Bits r.1 ∷ [] =
        sym (ap marks parted ∙ marks_append (take (end - 1) xs) (item ∷ [])) ∙ so.is
        ∙ ap (λ (z : List (List Bool)). front ++ map (piece_mark sorts.Bits) z) r.2
        ∙ ap (λ (z : List Mark). front ++ z) (map-append (piece_mark sorts.Bits) r.0 (r.1 ∷ []))
        ∙ sym (append_assoc front (map (piece_mark sorts.Bits) r.0) (piece_mark sorts.Bits r.1 ∷ [])) in
        let u = same_last (marks (take (end - 1) xs)) (front ++ map (piece_mark sorts.Bits) r.0) (mark item)
        (piece_mark sorts.Bits r.1) whole in
        record {
          before = r.0;
          last = r.1;
          here = u.1;
          others = u.0;
          joins = ap joined r.2 ∙ joined_last r.0 r.1;
        }

    -- it is bits
    pub are_bits : ((u : ℕ) (o : Bor (List ℕ)) → item ≡ items.Bits u o → ⊥) → ⊥
    are_bits not = by_item item last_piece.here not
      where
        by_item : (x : Item) → mark x ≡ piece_mark sorts.Bits last_piece.last →
            ((u : ℕ) (o : Bor (List ℕ)) → x ≡ items.Bits u o → ⊥) → ⊥
        by_item (items.Bits u o) e n = n u o refl
        by_item _ e n = absurd (cc (e))

    module _ (u : ℕ) (o : Bor (List ℕ)) (is : item ≡ items.Bits u o) (z : ℕ) (q : Bor (List ℕ))
        (t : used_bits z q.now ≡ trimmed (used_bits u o.now)) where
      last_is : last_piece.last ≡ used_bits u o.now
      last_is = let e = sym (ap mark is) ∙ last_piece.here in cc

      -- it is zeros alone
      pub piece_trimmed : q.now ≡ [] → TrimmedSoFar xs front bs (end - 1)
      piece_trimmed none =
          let empty : used_bits z q.now ≡ [] = ap (λ (y : List ℕ). used_bits z y) none ∙ no_bits z in
          let zeros : trimmed last_piece.last ≡ [] = ap trimmed last_is ∙ sym t ∙ empty in
          record {
            left = last_piece.before;
            is = last_piece.others;
            trims = sym (zeros_behind (joined last_piece.before) last_piece.last zeros)
                ∙ ap trimmed (sym last_piece.joins) ∙ so.trims;
          }
        where
          no_bits : (z : ℕ) → used_bits z [] ≡ []
          no_bits z = take-nil (8 * 0 - z)

      -- it has other bits
      pub piece_kept : (q.now ≡ [] → ⊥) → z ≤ 7 →
          TrimsPieces front bs (slice_set (take end xs) (end - 1) (items.Bits z q))
      piece_kept others few = record {
        left = last_piece.before ++ used_bits z q.now ∷ [];
        is = set_mark (take end xs) (front ++ map (piece_mark sorts.Bits) last_piece.before) [] (mark item) (items.Bits z q)
            (end - 1) at parts
            ∙ append_assoc front (map (piece_mark sorts.Bits) last_piece.before) (piece_mark sorts.Bits (used_bits z q.now) ∷ [])
            ∙ ap (λ (y : List Mark). front ++ y) (sym (map-append (piece_mark sorts.Bits) last_piece.before
            (used_bits z q.now ∷ [])));
        trims = joined_last last_piece.before (used_bits z q.now)
            ∙ ap (λ (y : List Bool). joined last_piece.before ++ y) (t ∙ ap trimmed (sym last_is))
            ∙ sym (bits_behind (joined last_piece.before) last_piece.last not_zeros)
            ∙ ap trimmed (sym last_piece.joins) ∙ so.trims;
      }
        where
          not_zeros : trimmed last_piece.last ≢ []
          not_zeros e =
              let none : used_bits z q.now ≡ [] = t ∙ ap trimmed (sym last_is) ∙ e in
              let n : length (used_bits z q.now) ≡ 0 = ap (λ (y : List Bool). length y) none in
              let m = bits_taken q.now z in
              others (no_items q.now (omega (arith, m, n, few)))
            where
              no_items : (y : List ℕ) → length y ≡ 0 → y ≡ []
              no_items [] e = refl
              no_items (x ∷ y) e = absurd (omega (arith, e))

          parts : marks (take end xs) ≡ (front ++ map (piece_mark sorts.Bits) last_piece.before) ++ mark item ∷ []
          parts =
              let k : end ≡ (end - 1) + 1 = omega (arith, some) in
              ap marks (ap (λ (n : ℕ). take n xs) k ∙ take_more xs (end - 1) item (omega (arith, some, within))
              ∙ ap (λ (y : Item). take (end - 1) xs ++ y ∷ []) (sym i))
              ∙ marks_append (take (end - 1) xs) (item ∷ []) ∙ ap (λ (y : List Mark). y ++ mark item ∷ []) last_piece.others

          at : end - 1 ≡ length (front ++ map (piece_mark sorts.Bits) last_piece.before)
          at =
              let l : length (marks (take (end - 1) xs)) ≡ length (front ++ map (piece_mark sorts.Bits) last_piece.before) =
              ap (λ (y : List Mark). length y) last_piece.others in
              let m = length-map (take (end - 1) xs) mark in
              let n = length-take-le (end - 1) xs (omega (arith, within)) in
              omega (arith, l, m, n)
