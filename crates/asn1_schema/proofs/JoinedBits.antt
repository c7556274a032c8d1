-- The bits that pieces join to, as octets.
use Rattle.std.proofs.Common.{◌≡◌, ◌∙◌, ap, sym, subst, refl, ℕ, suc, ◌+◌, ◌-◌, arith, List, [], ◌∷◌, ◌++◌, append-nil, length, take, max, inl, inr, ◌⊎◌}
use Rattle.std.specs.Prelude.{Bool, map, Option, Some, Result, Ok, Err, IfOk}
use Rattle.std.proofs.lemmas.List.{length-map, length-append, take-map}
use Rattle.std.proofs.Math.Seq.{take-append_seam}
use Rattle.asn1_schema.specs.declared.tape.Item.{Item}
use Rattle.asn1_schema.specs.Values.{bits, leaf, joined}
use Rattle.asn1_schema.specs.Tape.{Kept, kept_bits, kept_leaf, pieces, Mark, leaf_mark, pieces_mark, pieces_end_mark, mark, marks, tape_of, value_of}
use Rattle.asn1_schema.specs.Grammar.{IsBitContent}
use Rattle.asn1_schema.specs.Rules.{strict}
use Rattle.asn1_schema.specs.Writing.{before, PutsBitPieces}
use Rattle.asn1_schema.specs.Cursor.{HoldPieces, AppendsBits}
use Rattle.asn1_schema.proofs.SameParts.{same_parts}
use Rattle.asn1_schema.proofs.WrittenTapes.{whole}
use Rattle.asn1_schema.proofs.WrittenBits.{same_pieces, bits_shape}

-- A bit string has one piece, or stands between the marks of several.

one_piece : (value : List Item) (bs : List Bool) → marks value ≡ leaf_mark (bits bs) ∷ [] →
    HoldPieces value 0 (length value) bs
one_piece value bs m = record { pieces = bs ∷ []; joins = append-nil bs; stand = whole value ∙ m }

several : (value : List Item) (x : List Bool) (xs : List (List Bool)) → marks value ≡ pieces bits x xs →
    (last some : ℕ) → last ≡ some - 1 → some ≡ max (length value) 2 → HoldPieces value 1 last (joined (x ∷ xs))
several value x xs m last some is most =
    let front = pieces_mark (suc (length xs)) ∷ map (λ y. leaf_mark (bits y)) (x ∷ xs) in
    let back = pieces_end_mark (suc (length xs)) ∷ [] in
    let n = length-map value mark in
    let k = ap (λ (z : List Mark). length z) m in
    let l = length-append front back in
    let e : last ≡ length front = omega (arith, is, most, n, k, l) in
    record {
      pieces = x ∷ xs;
      joins = refl;
      stand = (sym (take-map mark last value) ∙ (ap (λ (z : List Mark). take last z) m
          ∙ (ap (λ (i : ℕ). take i (front ++ back)) e ∙ take-append_seam front back)))
          ∙ ap (λ (z : List Mark). z ++ map (λ y. leaf_mark (bits y)) (x ∷ xs))
          (sym (sym (take-map mark 1 value) ∙ ap (λ (z : List Mark). take 1 z) m));
    }

pub stand_between : (value : List Item) (kept : Kept) (bs : List Bool) → marks value ≡ tape_of kept →
    value_of kept ≡ leaf (bits bs) → (n : ℕ) (others : List Mark) → marks value ≡ pieces_mark n ∷ others →
    (last some : ℕ) → last ≡ some - 1 → some ≡ max (length value) 2 → HoldPieces value 1 last bs
stand_between value kept bs m v n others f last some is most = elim (bits_shape kept bs v) [
  | inl k ↦ absurd (let e = sym f ∙ (m ∙ ap (λ (z : Kept). tape_of z) k) in cc)
  | inr k ↦ subst (λ (z : List Bool). HoldPieces value 1 last z) (sym k.3)
      (several value k.0 k.1 (m ∙ ap (λ (z : Kept). tape_of z) k.2) last some is most)
]

pub stand_alone : (value : List Item) (kept : Kept) (bs : List Bool) → marks value ≡ tape_of kept →
    value_of kept ≡ leaf (bits bs) → ((n : ℕ) (others : List Mark) → marks value ≡ pieces_mark n ∷ others → ⊥) →
    HoldPieces value 0 (length value) bs
stand_alone value kept bs m v other = elim (bits_shape kept bs v) [
  | inl k ↦ one_piece value bs (m ∙ ap (λ (z : Kept). tape_of z) k)
  | inr k ↦ absurd (other (suc (length k.1)) _ (m ∙ ap (λ (z : Kept). tape_of z) k.2))
]

-- the bits that are put are those that stand there
pub holds_content : (tape : List Item) (start end : ℕ) (bs : List Bool) (old new : List ℕ) → HoldPieces tape start end bs →
    (p : PutsBitPieces tape start end old new) → IsBitContent strict p.content bs
holds_content tape start end bs old new h p =
    let same = same_pieces p.pieces h.pieces (same_parts (before tape start) (before tape start)
    (map (λ y. leaf_mark (bits y)) p.pieces) (map (λ y. leaf_mark (bits y)) h.pieces) refl (sym p.puts.taken ∙ h.stand)).1 in
    subst (λ (z : List Bool). IsBitContent strict p.content z)
    (ap (λ (z : List (List Bool)). joined z) same ∙ h.joins) p.said

-- What follows the count of unused bits is put behind others.

if_ok : {T E : Type 0} (P Q : T → Type 0) → ((x : T) → P x → Q x) → (r : Result T E) → IfOk r P → IfOk r Q
if_ok P Q f (Ok x) a = f x a
if_ok P Q f (Err e) a = a

pub appended : {E : Type 0} (bs : List Bool) (r : Result (Option ℕ) E) (old new given content : List ℕ) →
    (said : IsBitContent strict content bs) → given ≡ content →
    ((first : ℕ) (o : List ℕ) → given ≡ first ∷ o → IfOk r (λ x. (x ≡ Some first) × (new ≡ old ++ o))) →
    IfOk r (AppendsBits bs old new)
appended bs r old new given content said is push =
    if_ok (λ x. (x ≡ Some (length said.unused)) × (new ≡ old ++ said.octets)) (AppendsBits bs old new)
    (λ x a. subst (λ (z : Option ℕ). AppendsBits bs old new z) (sym a.0)
    (said.octets, a.1, subst (λ (z : List ℕ). IsBitContent strict z bs) said.is said))
    r (push (length said.unused) said.octets (is ∙ said.is))
