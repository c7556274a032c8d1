-- The octets of a string, in one piece and in several.
use Rattle.std.proofs.Common.{◌≡◌, ◌∙◌, ap, sym, refl, ℕ, List, [], ◌∷◌, ◌++◌, append_assoc, append-nil, map}
use Rattle.asn1_schema.specs.Values.{leaf, joined}
use Rattle.asn1_schema.specs.Tape.{Sort, of_octets, of_text, of_time, string, Kept, kept_leaf, kept_string, kept_bits, kept_row, kept_chosen, Mark, leaf_mark, pieces_end_mark, value_of, tape_of}
use Rattle.asn1_schema.specs.Joined.{octets_of, all_octets}

octets_of_string : (s : Sort) (o : List ℕ) → octets_of (leaf_mark (string s o)) ≡ o
octets_of_string of_octets o = refl
octets_of_string (of_text kind) o = refl
octets_of_string (of_time kind) o = refl

same_octets : (s t : Sort) (o p : List ℕ) → string s o ≡ string t p → o ≡ p
same_octets s t o p e = sym (octets_of_string s o) ∙ (ap (λ l. octets_of (leaf_mark l)) e ∙ octets_of_string t p)

all_append : (ms ns : List Mark) → all_octets (ms ++ ns) ≡ all_octets ms ++ all_octets ns
all_append [] ns = refl
all_append (m ∷ ms) ns = ap (λ (z : List ℕ). octets_of m ++ z) (all_append ms ns)
    ∙ sym (append_assoc (octets_of m) (all_octets ms) (all_octets ns))

pub octets_of_pieces : (s : Sort) (os : List (List ℕ)) → all_octets (map (λ y. leaf_mark (string s y)) os) ≡ joined os
octets_of_pieces s [] = refl
octets_of_pieces s (o ∷ os) = ap (λ (z : List ℕ). z ++ all_octets (map (λ y. leaf_mark (string s y)) os)) (octets_of_string s o)
    ∙ ap (λ (z : List ℕ). o ++ z) (octets_of_pieces s os)

pub octets_of_value : (kept : Kept) (s : Sort) (said : List ℕ) → value_of kept ≡ leaf (string s said) →
    all_octets (tape_of kept) ≡ said
octets_of_value (kept_leaf l) s said e =
    let same : l ≡ string s said = cc in
    append-nil (octets_of (leaf_mark l)) ∙ (ap (λ l. octets_of (leaf_mark l)) same ∙ octets_of_string s said)
octets_of_value (kept_string t o os) s said e =
    let same : string t (joined (o ∷ os)) ≡ string s said = cc in
    all_append (map (λ y. leaf_mark (string t y)) (o ∷ os)) (pieces_end_mark _ ∷ [])
    ∙ (append-nil (all_octets (map (λ y. leaf_mark (string t y)) (o ∷ os)))
    ∙ (octets_of_pieces t (o ∷ os) ∙ same_octets t s (joined (o ∷ os)) said same))
octets_of_value (kept_bits b bs) of_octets said e = absurd (cc)
octets_of_value (kept_bits b bs) (of_text kind) said e = absurd (cc)
octets_of_value (kept_bits b bs) (of_time kind) said e = absurd (cc)
octets_of_value (kept_row ks) s said e = absurd (cc)
octets_of_value (kept_chosen k v) s said e = absurd (cc)
