-- What the pieces of a leaf join to.
use Rattle.std.proofs.Common.{◌≡◌, ◌∙◌, ap, refl, ℕ, suc, Bool, true, false, List, [], ◌∷◌, ◌++◌, map, length, arith}
use Rattle.asn1_schema.specs.Values.{LeafValue, leaf, bits, octets, text, time, joined}
use Rattle.asn1_schema.specs.declared.tape.Item.{Item}
use Rattle.asn1_schema.specs.Tape.{Mark, marks, leaf_mark, pieces_mark, pieces_end_mark, Sort, of_octets, of_text, of_time, string}
use Rattle.asn1_schema.specs.Tape.{Kept, kept_leaf, kept_string, kept_bits, kept_row, kept_chosen, value_of, tape_of}
use Rattle.asn1_schema.specs.Same.{joined_leaf, all_bits_of}
use Rattle.asn1_schema.proofs.Signs.{one_leaf}
use Rattle.asn1_schema.proofs.StringOctets.{octets_of_pieces}
use Rattle.asn1_json.specs.Walk.{begins_pieces}

string_joined : (s : Sort) (o : List ℕ) (os : List (List ℕ)) →
    joined_leaf (map (λ y. leaf_mark (string s y)) (o ∷ os)) ≡ string s (joined (o ∷ os))
string_joined of_octets o os = ap (λ (z : List ℕ). octets (o ++ z)) (octets_of_pieces of_octets os)
string_joined (of_text k) o os = ap (λ (z : List ℕ). text k (o ++ z)) (octets_of_pieces (of_text k) os)
string_joined (of_time k) o os = ap (λ (z : List ℕ). time k (o ++ z)) (octets_of_pieces (of_time k) os)

bits_joined : (bs : List (List Bool)) → all_bits_of (map (λ y. leaf_mark (bits y)) bs) ≡ joined bs
bits_joined [] = refl
bits_joined (b ∷ bs) = ap (λ (z : List Bool). b ++ z) (bits_joined bs)

-- the marks between the brackets
abbrev pub IsInside : List Mark → List Mark → Type 0
IsInside here inner = (first last : Mark) (ms : List Mark) → here ≡ first ∷ (ms ++ last ∷ []) → inner ≡ ms

pub pieces_join : (k : Kept) (l : LeafValue) (here inner : List Mark) → here ≡ tape_of k → value_of k ≡ leaf l →
    begins_pieces here ≡ true → IsInside here inner → joined_leaf inner ≡ l
pieces_join (kept_leaf m) l here inner at v p truncated = let g = ap begins_pieces at in absurd (cc)
pieces_join (kept_string s o os) l here inner at v p truncated =
    let is : string s (joined (o ∷ os)) ≡ l = cc in
    ap joined_leaf (truncated (pieces_mark (suc (length os))) (pieces_end_mark (suc (length os))) (map (λ y. leaf_mark (string s y)) (o ∷ os)) at)
    ∙ string_joined s o os ∙ is
pieces_join (kept_bits b bs) l here inner at v p truncated =
    let is : bits (joined (b ∷ bs)) ≡ l = cc in
    ap joined_leaf (truncated (pieces_mark (suc (length bs))) (pieces_end_mark (suc (length bs))) (map (λ y. leaf_mark (bits y)) (b ∷ bs)) at)
    ∙ ap (λ (z : List Bool). bits (b ++ z)) (bits_joined bs) ∙ is
pieces_join (kept_row ks) l here inner at v p truncated = absurd (cc)
pieces_join (kept_chosen arm w) l here inner at v p truncated = absurd (cc)

pub leaf_joins : (k : Kept) (l : LeafValue) (here : List Mark) → here ≡ tape_of k → value_of k ≡ leaf l →
    begins_pieces here ≡ false → joined_leaf here ≡ l
leaf_joins (kept_leaf m) l here at v p =
    let is : m ≡ l = cc in ap joined_leaf at ∙ one_leaf m ∙ is
leaf_joins (kept_string s o os) l here at v p = let g = ap begins_pieces at in absurd (cc)
leaf_joins (kept_bits b bs) l here at v p = let g = ap begins_pieces at in absurd (cc)
leaf_joins (kept_row ks) l here at v p = absurd (cc)
leaf_joins (kept_chosen arm w) l here at v p = absurd (cc)

-- a value has marks
pub some_marks : (k : Kept) (xs : List Item) → length xs ≡ 0 → marks xs ≡ tape_of k → ⊥
some_marks k (x ∷ xs) none at = absurd (omega (arith, none))
some_marks (kept_leaf l) [] none at = absurd (cc)
some_marks (kept_string s o os) [] none at = absurd (cc)
some_marks (kept_bits b bs) [] none at = absurd (cc)
some_marks (kept_row ks) [] none at = absurd (cc)
some_marks (kept_chosen arm w) [] none at = absurd (cc)
