-- Bounds are judged by the first item of a value.
use Rattle.std.proofs.lemmas.List.{length-append, length-map}
use Rattle.std.proofs.Common.{◌≡◌, ◌∙◌, ap, sym, subst, ℕ, zero, suc, List, [], ◌∷◌, ◌++◌, arith, length, ◌<◌, ◌≤◌}
use Rattle.std.specs.Prelude.{ℤ, pos, Option, Some, Result, Ok, Err, slice_get, map}
use Rattle.asn1_schema.specs.declared.fault.Fault.{Fault}
use Rattle.asn1_schema.proofs.Depths.{unless}
use Rattle.asn1_schema.specs.declared.tape.Item.{Item}
use Rattle.asn1_schema.specs.declared.tape.Item.TheVariants as items
use Rattle.asn1_schema.specs.Values.{Value, bits, measure, count}
use Rattle.asn1_schema.specs.Grammar.{IsMeasured}
use Rattle.asn1_schema.specs.Tape.{Kept, KeptRow, kept_leaf, kept_string, kept_bits, kept_row, kept_chosen, values_of, string, Mark, begin_mark, leaf_mark, pieces_mark, mark, marks, value_of, tape_of}
use Rattle.asn1_schema.specs.Reading.{JudgesBounds, JudgesItem, PutsValue, ReadsValue}
use Rattle.asn1_schema.specs.Sizes.{pieces_measure}
use Rattle.asn1_schema.proofs.PieceSizes.{measure_joined, measure_of_bits}

item_at : (xs : List Item) (front inner : List Mark) (m : Mark) (i : ℕ) (x : Item) → i ≡ length front →
    marks xs ≡ front ++ m ∷ inner → slice_get xs i ≡ Some x → mark x ≡ m
item_at [] [] inner m i x l e f = absurd (cc)
item_at [] (n ∷ front) inner m i x l e f = absurd (cc)
item_at (y ∷ ys) [] inner m zero x l e f = let same : y ≡ x = cc in let g : mark y ≡ m = cc in ap mark (sym same) ∙ g
item_at (y ∷ ys) [] inner m (suc i) x l e f = absurd (omega (arith, l))
item_at (y ∷ ys) (n ∷ front) inner m zero x l e f = absurd (omega (arith, l))
item_at (y ∷ ys) (n ∷ front) inner m (suc i) x l e f =
    let rest : marks ys ≡ front ++ m ∷ inner = cc in
    item_at ys front inner m i x (omega (arith, l)) rest f

-- a value has an item
some_marks : (kept : Kept) → 0 < length (tape_of kept)
some_marks (kept_leaf l) = omega arith
some_marks (kept_string s o os) = omega arith
some_marks (kept_bits y ys) = omega arith
some_marks (kept_row ks) = omega arith
some_marks (kept_chosen k v) = omega arith

pub no_place : (xs : List Item) (place : ℕ) (front : List Mark) (kept : Kept) → marks xs ≡ front ++ tape_of kept →
    place ≡ length front → length xs ≤ place → ⊥
no_place xs place front kept e p l =
    let all : length (marks xs) ≡ length (front ++ tape_of kept) = ap (λ (ms : List Mark). length ms) e in
    let m = length-map xs mark in
    let n = length-append front (tape_of kept) in
    let k = some_marks kept in
    omega (arith, all, m, n, k, p, l)

-- rows and pieces begin with items of their own
begin_of : (x : Item) (n : ℕ) → mark x ≡ begin_mark n → x ≡ items.Begin n
begin_of (items.Begin m) n e = cc
begin_of _ n e = absurd (cc)

pieces_of : (x : Item) (n : ℕ) → mark x ≡ pieces_mark n → x ≡ items.Pieces n
pieces_of (items.Pieces m) n e = cc
pieces_of _ n e = absurd (cc)

pub judged : {T : Type 0} (lower upper : Option ℤ) (xs : List Item) (place : ℕ) (x : Item) (r : Result T Fault)
    (front : List Mark) (kept : Kept) → marks xs ≡ front ++ tape_of kept → place ≡ length front →
    slice_get xs place ≡ Some x → ((n : ℕ) → x ≡ items.Begin n → ⊥) → ((n : ℕ) → x ≡ items.Pieces n → ⊥) →
    JudgesItem lower upper (mark x) r → JudgesBounds lower upper (measure (value_of kept)) r
judged lower upper xs place x r front (kept_leaf l) e p f b q j =
    subst (λ (m : Mark). JudgesItem lower upper m r) (item_at xs front [] _ place x p e f) j
judged lower upper xs place x r front (kept_string s o os) e p f b q j =
    absurd (q _ (pieces_of x _ (item_at xs front _ _ place x p e f)))
judged lower upper xs place x r front (kept_bits y ys) e p f b q j =
    absurd (q _ (pieces_of x _ (item_at xs front _ _ place x p e f)))
judged lower upper xs place x r front (kept_row ks) e p f b q j =
    absurd (b _ (begin_of x _ (item_at xs front _ _ place x p e f)))
judged lower upper xs place x r front (kept_chosen k v) e p f b q j =
    subst (λ (m : Mark). JudgesItem lower upper m r) (item_at xs front _ _ place x p e f) j

-- so is a string in pieces, by these
pub judged_pieces : {T : Type 0} (lower upper : Option ℤ) (xs : List Item) (place : ℕ) (x : Item) (n : ℕ) (r : Result T Fault)
    (front : List Mark) (kept : Kept) → marks xs ≡ front ++ tape_of kept → place ≡ length front →
    slice_get xs place ≡ Some x → mark x ≡ pieces_mark n →
    ((inner : List Mark) (first last : Mark) → marks xs ≡ front ++ first ∷ (inner ++ last ∷ []) →
    JudgesBounds lower upper (pieces_measure inner) r) → JudgesBounds lower upper (measure (value_of kept)) r
judged_pieces lower upper xs place x n r front (kept_leaf l) e p f b j =
    absurd (let m = item_at xs front [] _ place x p e f in cc)
judged_pieces {T} lower upper xs place x n r front (kept_string s o os) e p f b j =
    subst (λ (m : Option ℤ). JudgesBounds lower upper m r) (measure_joined s o os)
    (j (map (λ y. leaf_mark (string s y)) (o ∷ os)) _ _ e)
judged_pieces lower upper xs place x n r front (kept_bits y ys) e p f b j =
    subst (λ (m : Option ℤ). JudgesBounds lower upper m r) (measure_of_bits y ys)
    (j (map (λ y. leaf_mark (bits y)) (y ∷ ys)) _ _ e)
judged_pieces lower upper xs place x n r front (kept_row ks) e p f b j =
    absurd (let m = item_at xs front _ _ place x p e f in cc)
judged_pieces lower upper xs place x n r front (kept_chosen k v) e p f b j =
    absurd (let m = item_at xs front _ _ place x p e f in cc)

-- so is a row, by the values in it
pub judged_row : {T : Type 0} (lower upper : Option ℤ) (xs : List Item) (place : ℕ) (x : Item) (n : ℕ) (r : Result T Fault)
    (front : List Mark) (kept : Kept) → marks xs ≡ front ++ tape_of kept → place ≡ length front →
    slice_get xs place ≡ Some x → mark x ≡ begin_mark n →
    ((ks : KeptRow) → marks xs ≡ front ++ tape_of (kept_row ks) → JudgesBounds lower upper (Some (pos (count (values_of ks)))) r) →
    JudgesBounds lower upper (measure (value_of kept)) r
judged_row lower upper xs place x n r front (kept_leaf l) e p f b row =
    absurd (let m = item_at xs front [] _ place x p e f in cc)
judged_row lower upper xs place x n r front (kept_string s o os) e p f b row =
    absurd (let m = item_at xs front _ _ place x p e f in cc)
judged_row lower upper xs place x n r front (kept_bits y ys) e p f b row =
    absurd (let m = item_at xs front _ _ place x p e f in cc)
judged_row lower upper xs place x n r front (kept_row ks) e p f b row = row ks e
judged_row lower upper xs place x n r front (kept_chosen k v) e p f b row =
    absurd (let m = item_at xs front _ _ place x p e f in cc)

-- a value is put on the tape, and its measure judged
pub bounds_read : {T : Type 0} (P : Value → Type 0) (lower upper : Option ℤ) (old new : List Item) (r : Result T Fault) →
    ((v w : Value) → P v → P w → v ≡ w) → (a : PutsValue P old new) →
    JudgesBounds lower upper (measure (value_of a.kept)) r →
    ReadsValue (λ v. P v × IsMeasured lower upper (measure v)) old new r
bounds_read P lower upper old new (Ok x) one a j = record { kept = a.kept; holds = (a.holds, j); is = a.is }
bounds_read P lower upper old new (Err e) one a j =
    unless e (IsMeasured lower upper (measure (value_of a.kept)) → ⊥) ((v : Value) → P v × IsMeasured lower upper (measure v) → ⊥)
    (λ n v b. n (subst (λ (z : Value). IsMeasured lower upper (measure z)) (one v (value_of a.kept) b.0 a.holds) b.1)) j

pub bounds_refused : (T U : Type 0) (P : Value → Type 0) (lower upper : Option ℤ) (old mid new : List Item) (e : Fault) →
    ReadsValue {T = U} P old mid (Err e) → ReadsValue {T = T} (λ v. P v × IsMeasured lower upper (measure v)) old new (Err e)
bounds_refused T U P lower upper old mid new e a =
    unless e ((v : Value) → P v → ⊥) ((v : Value) → P v × IsMeasured lower upper (measure v) → ⊥) (λ n v b. n v b.0) a
