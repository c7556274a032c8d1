-- Contents octets that begin other ones, and how great the arcs of few octets are.
use Rattle.std.proofs.Common.{◌≡◌, ◌≢◌, ℕ, suc, zero, ◌^◌, ◌<◌, ◌≤◌, Bool, true, false, List, [], ◌∷◌, ◌++◌, map}
use Rattle.std.proofs.Common.{append_assoc, append-nil, length, length-append, refl, ap, sym, ◌∙◌, arith, subst}
use Rattle.std.specs.List.{All, concat}
use Rattle.std.proofs.lemmas.List.{map-append}
use Rattle.std.proofs.lemmas.List.Elements.{All-nil, All-cons}
use Rattle.x690.specs.Octets.{BeginsWith}
use Rattle.x690.specs.Digits.{base_128_value}
use Rattle.x690.specs.Identifiers.{AreTagDigits}
use Rattle.x690.specs.Laws.StrictIdentifiers.{power_le, value_lt}
use Rattle.x690.specs.Arcs.{pieces_of, subidentifiers, first_arc, second_arc, with_first_split, absolute_arcs, arcs_of}
use Rattle.x690.specs.Arcs.{AreComplete}
use Rattle.x690.specs.Laws.Arcs.{first_piece, pieces_joined, first_pair_is, split_but_zero}

-- Beginnings.

words_are_pieces : (words : List (List ℕ)) (rest : List ℕ) → All AreTagDigits words →
    pieces_of (concat words ++ rest) ≡ words ++ pieces_of rest
words_are_pieces [] rest a = refl
words_are_pieces (word ∷ words) rest a =
    ap pieces_of (append_assoc word (concat words) rest)
    ∙ first_piece word (concat words ++ rest) (a 0 [] (omega arith))
    ∙ ap (λ (pieces : List (List ℕ)). word ∷ pieces) (words_are_pieces words rest (λ k d h. a (suc k) d (omega arith)))

-- behind complete subidentifiers the others follow
pub subidentifiers_follow : (front rest : List ℕ) → AreComplete front →
    subidentifiers (front ++ rest) ≡ subidentifiers front ++ subidentifiers rest
subidentifiers_follow front rest a =
    ap (λ (octets : List ℕ). subidentifiers (octets ++ rest)) (sym (pieces_joined front))
    ∙ ap (map base_128_value) (words_are_pieces (pieces_of front) rest a)
    ∙ map-append base_128_value (pieces_of front) (pieces_of rest)

map_empty : (pieces : List (List ℕ)) → map base_128_value pieces ≡ [] → pieces ≡ []
map_empty [] e = refl
map_empty (piece ∷ pieces) e = cc

some_subidentifiers : (octet : ℕ) (octets : List ℕ) → subidentifiers (octet ∷ octets) ≢ []
some_subidentifiers octet octets e =
    let none : [] ≡ octet ∷ octets =
    ap concat (sym (map_empty (pieces_of (octet ∷ octets)) e)) ∙ pieces_joined (octet ∷ octets) in
    cc

split_more : (ns more : List ℕ) → ns ≢ [] → with_first_split (ns ++ more) ≡ with_first_split ns ++ more
split_more [] more some = absurd (some refl)
split_more (n ∷ ns) more some = refl

-- where octets follow, the first subidentifier is split
split_whole : (octet other : ℕ) (octets others : List ℕ) → absolute_arcs (octet ∷ octets ++ other ∷ others) ≡
    with_first_split (subidentifiers (octet ∷ octets ++ other ∷ others))
split_whole octet other [] others = refl
split_whole octet other (next ∷ octets) others = refl

split_follows : (octet other : ℕ) (octets others : List ℕ) → AreComplete (octet ∷ octets) → octet ∷ octets ≢ 0 ∷ [] →
    absolute_arcs (octet ∷ octets ++ other ∷ others) ≡ absolute_arcs (octet ∷ octets) ++ subidentifiers (other ∷ others)
split_follows octet other octets others a some =
    let front = octet ∷ octets in
    let more = subidentifiers (other ∷ others) in
    split_whole octet other octets others ∙ ap with_first_split (subidentifiers_follow front (other ∷ others) a)
    ∙ split_more (subidentifiers front) more (some_subidentifiers octet octets)
    ∙ ap (λ (arcs : List ℕ). arcs ++ more) (sym (split_but_zero front some))

absolute_begin : (front rest : List ℕ) → AreComplete front →
    (more : List ℕ) × BeginsWith (absolute_arcs (front ++ rest)) (absolute_arcs front) more
absolute_begin [] rest a = (absolute_arcs rest, refl)
absolute_begin (octet ∷ octets) [] a =
    ([], ap absolute_arcs (append-nil (octet ∷ octets)) ∙ sym (append-nil (absolute_arcs (octet ∷ octets))))
absolute_begin (zero ∷ []) (other ∷ others) a =
    (0 ∷ subidentifiers (other ∷ others), ap with_first_split (subidentifiers_follow (0 ∷ []) (other ∷ others) a))
absolute_begin (suc octet ∷ []) (other ∷ others) a =
    (subidentifiers (other ∷ others), split_follows (suc octet) other [] others a (λ e. cc))
absolute_begin (octet ∷ next ∷ octets) (other ∷ others) a =
    (subidentifiers (other ∷ others), split_follows octet other (next ∷ octets) others a (λ e. cc))

-- the arcs of complete contents octets begin those of octets that they begin
pub arcs_begin : (relative : Bool) (front rest : List ℕ) → AreComplete front →
    (more : List ℕ) × BeginsWith (arcs_of relative (front ++ rest)) (arcs_of relative front) more
arcs_begin true front rest a = (subidentifiers rest, subidentifiers_follow front rest a)
arcs_begin false front rest a = absolute_begin front rest a

-- How great arcs are.

abbrev AreBelow : ℕ → List ℕ → Type 0
AreBelow bound ns = All (λ n. n < bound) ns

pieces_fit : (k : ℕ) (pieces : List (List ℕ)) → length (concat pieces) ≤ k →
    AreBelow (128 ^ k) (map base_128_value pieces)
pieces_fit k [] h = All-nil (λ n. n < 128 ^ k)
pieces_fit k (piece ∷ pieces) h =
    let l = length-append piece (concat pieces) in
    let few : length piece ≤ k = omega (arith, l, h) in
    All-cons (λ n. n < 128 ^ k) (base_128_value piece) (map base_128_value pieces)
    (omega (arith, value_lt piece, power_le k (length piece) few))
    (pieces_fit k pieces (omega (arith, l, h)))

subidentifiers_fit : (content : List ℕ) → AreBelow (128 ^ length content) (subidentifiers content)
subidentifiers_fit content =
    pieces_fit (length content) (pieces_of content) (omega (arith, ap length (pieces_joined content)))

split_fit : (bound : ℕ) (ns : List ℕ) → 2 < bound → AreBelow bound ns → AreBelow bound (with_first_split ns)
split_fit bound [] l a = a
split_fit bound (n ∷ ns) l a =
    let pair = first_pair_is n in
    let less : n < bound = a 0 0 (omega arith) in
    All-cons (λ m. m < bound) (first_arc n) (second_arc n ∷ ns) (omega (arith, pair.0.0, l))
    (All-cons (λ m. m < bound) (second_arc n) ns (omega (arith, pair.1, less)) (λ k d h. a (suc k) d (omega arith)))

split_arcs_fit : (octet : ℕ) (octets : List ℕ) → octet ∷ octets ≢ 0 ∷ [] →
    AreBelow (128 ^ length (octet ∷ octets)) (absolute_arcs (octet ∷ octets))
split_arcs_fit octet octets some =
    let content = octet ∷ octets in
    let bound : 128 ^ 1 ≤ 128 ^ length content = power_le (length content) 1 (omega arith) in
    subst (AreBelow (128 ^ length content)) (sym (split_but_zero content some))
    (split_fit (128 ^ length content) (subidentifiers content) (omega (arith, bound)) (subidentifiers_fit content))

-- each arc is below 128 to the power of the number of octets
pub arcs_fit : (relative : Bool) (content : List ℕ) → AreBelow (128 ^ length content) (arcs_of relative content)
arcs_fit true content = subidentifiers_fit content
arcs_fit false [] = All-nil (λ n. n < 128 ^ 0)
arcs_fit false (zero ∷ []) = subidentifiers_fit (0 ∷ [])
arcs_fit false (suc octet ∷ []) = split_arcs_fit (suc octet) [] (λ e. cc)
arcs_fit false (octet ∷ next ∷ octets) = split_arcs_fit octet (next ∷ octets) (λ e. cc)
