-- Rows on a tape.
use Rattle.std.proofs.Common.{◌≡◌, ◌∙◌, ap, sym, refl, ℕ, zero, suc, ◌-◌, List, [], ◌∷◌, ◌++◌, append_assoc, length, length-append, arith}
use Rattle.std.specs.Prelude.{slice_set}
use Rattle.std.proofs.lemmas.List.{length-map}
use Rattle.asn1_schema.specs.declared.tape.Item.{Item}
use Rattle.asn1_schema.specs.declared.tape.Item.TheVariants as items
use Rattle.asn1_schema.specs.Tape.{Mark, mark, marks, begin_mark, end_mark, between}

pub marks_append : (xs ys : List Item) → marks (xs ++ ys) ≡ marks xs ++ marks ys
marks_append [] ys = refl
marks_append (x ∷ xs) ys = ap (λ (z : List Mark). mark x ∷ z) (marks_append xs ys)

-- an item is put in the place of one behind so many others
pub set_mark : (xs : List Item) (front inner : List Mark) (m : Mark) (x : Item) (i : ℕ) → i ≡ length front →
    marks xs ≡ front ++ m ∷ inner → marks (slice_set xs i x) ≡ front ++ mark x ∷ inner
set_mark [] [] inner m x i l e = absurd (cc)
set_mark [] (f ∷ front) inner m x i l e = absurd (cc)
set_mark (y ∷ ys) [] inner m x zero l e =
    let rest : marks ys ≡ inner = cc in ap (λ (z : List Mark). mark x ∷ z) rest
set_mark (y ∷ ys) [] inner m x (suc i) l e = absurd (omega (arith, l))
set_mark (y ∷ ys) (f ∷ front) inner m x zero l e = absurd (omega (arith, l))
set_mark (y ∷ ys) (f ∷ front) inner m x (suc i) l e =
    let first : mark y ≡ f = cc in
    let rest : marks ys ≡ front ++ m ∷ inner = cc in
    let n : i ≡ length front = omega (arith, l) in
    let others = set_mark ys front inner m x i n rest in
    cc

-- a row is ended, and how many marks it has is written at its beginning
pub row_closed : (xs ys : List Item) (place count : ℕ) (front inner : List Mark) → marks xs ≡ front ++ begin_mark 0 ∷ inner →
    place ≡ length front → count ≡ (length xs - place) - 1 → ys ≡ xs ++ items.End count ∷ [] →
    marks (slice_set ys place (items.Begin count)) ≡
    front ++ between (begin_mark (length inner)) inner (end_mark (length inner))
row_closed xs ys place count front inner e p c y =
    let l = sym (length-map xs mark) ∙ (ap length e ∙ length-append front (begin_mark 0 ∷ inner)) in
    let n : count ≡ length inner = omega (arith, l, p, c) in
    let all : marks ys ≡ front ++ begin_mark 0 ∷ (inner ++ end_mark count ∷ []) =
    ap marks y ∙ (marks_append xs (items.End count ∷ []) ∙ (ap (λ (z : List Mark). z ++ end_mark count ∷ []) e
    ∙ append_assoc front (begin_mark 0 ∷ inner) (end_mark count ∷ []))) in
    set_mark ys front (inner ++ end_mark count ∷ []) (begin_mark 0) (items.Begin count) place p all
    ∙ ap (λ (k : ℕ). front ++ between (begin_mark k) inner (end_mark k)) n
