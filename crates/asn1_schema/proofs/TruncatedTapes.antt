-- Tapes that are cut at places.
use Rattle.std.proofs.Common.{◌≡◌, ◌∙◌, ap, sym, refl, ℕ, zero, suc, ◌+◌, ◌-◌, ◌<◌, ◌≤◌, List, [], ◌∷◌, ◌++◌, length, length-append, arith, take, drop}
use Rattle.std.proofs.lemmas.List.{length-map, length-take-le, take-take, take-map, drop-map, drop-take}
use Rattle.std.proofs.Math.Seq.{take-append_seam, drop-append_seam}
use Rattle.asn1_schema.specs.declared.tape.Item.{Item}
use Rattle.asn1_schema.specs.Tape.{Mark, mark, marks}
use Rattle.asn1_schema.specs.Writing.{before}

-- how many marks stand before a place
pub length_before : (tape : List Item) (at : ℕ) → at ≤ length tape → length (before tape at) ≡ at
length_before tape at l = length-map (take at tape) mark ∙ length-take-le at tape l

-- the tape before an earlier place
pub before_truncated : (tape : List Item) (start end : ℕ) (front inner : List Mark) → end ≤ length tape →
    before tape end ≡ front ++ inner → length inner + start ≡ end → before tape start ≡ front
before_truncated tape start end front inner fits e l =
    let n = length_before tape end fits in
    let m = ap length e ∙ length-append front inner in
    let s : start ≡ length front = omega (arith, n, m, l) in
    let le : start ≤ end = omega (arith, l) in
    sym (take-map mark start tape)
    ∙ (take-map mark start tape
    ∙ (ap (λ (z : List Item). marks z) (sym (take-take start end tape le))
    ∙ (sym (take-map mark start (take end tape))
    ∙ (ap (λ (z : List Mark). take start z) e
    ∙ (ap (λ (z : ℕ). take z (front ++ inner)) s ∙ take-append_seam front inner)))))

-- the tape between two places
pub between_places : (tape : List Item) (start end : ℕ) (front inner : List Mark) → end ≤ length tape →
    before tape end ≡ front ++ inner → length inner + start ≡ end → marks (take (end - start) (drop start tape)) ≡ inner
between_places tape start end front inner fits e l =
    let n = length_before tape end fits in
    let m = ap length e ∙ length-append front inner in
    let s : start ≡ length front = omega (arith, n, m, l) in
    let sum : start + (end - start) ≡ end = omega (arith, l) in
    ap (λ (z : List Item). marks z) (sym (drop-take start (end - start) tape))
    ∙ (ap (λ (z : ℕ). marks (drop start (take z tape))) sum
    ∙ (sym (drop-map mark start (take end tape))
    ∙ (ap (λ (z : List Mark). drop start z) e
    ∙ (ap (λ (z : ℕ). drop z (front ++ inner)) s ∙ drop-append_seam front inner))))

-- so many at the front of a list, and the others
pub truncated : {A : Type 0} (k : ℕ) (xs : List A) → k ≤ length xs →
    (front : List A) × (back : List A) × (xs ≡ front ++ back) × (length front ≡ k) × (length back + k ≡ length xs)
truncated zero xs l = ([], xs, refl, refl, omega arith)
truncated (suc k) [] l = absurd (omega (arith, l))
truncated {A = A} (suc k) (x ∷ xs) l =
    let u = truncated k xs (omega (arith, l)) in
    (x ∷ u.0, u.1, ap (λ (z : List A). x ∷ z) u.2, omega (arith, u.3), omega (arith, u.4))

-- the last one of a list
pub last_of : {A : Type 0} (xs : List A) → 0 < length xs → (init : List A) × (x : A) × (xs ≡ init ++ x ∷ [])
last_of [] l = absurd (omega (arith, l))
last_of (x ∷ []) l = ([], x, refl)
last_of {A = A} (x ∷ y ∷ ys) l =
    let u = last_of (y ∷ ys) (omega arith) in
    (x ∷ u.0, u.1, ap (λ (z : List A). x ∷ z) u.2)
