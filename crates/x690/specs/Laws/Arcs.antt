-- Laws of pieces, subidentifiers and arcs.
pub mod Beginnings
pub mod Fronts
pub mod Runs
pub mod TextLengths
pub mod Texts
use Rattle.std.proofs.Common.{◌≡◌, ◌≢◌, ℕ, suc, zero, ◌+◌, ◌*◌, ◌<◌, ◌≤◌, Bool, true, false, List, [], ◌∷◌, ◌++◌, ◌⊎◌}
use Rattle.std.proofs.Common.{map, length-append, subst, length, take, drop, get_or, refl, ap, sym, ◌∙◌, arith, inl}
use Rattle.std.proofs.Common.{inr}
use Rattle.std.specs.List.{All, concat}
use Rattle.std.proofs.lemmas.Bool.{cases_lt}
use Rattle.std.proofs.lemmas.List.Elements.{All-nil, All-cons}
use Rattle.std.proofs.lemmas.Bool.Decides.{nat_tests}
use Rattle.x690.specs.Digits.{base_128_value}
use Rattle.x690.specs.Identifiers.{AreTagDigits, NeedsItsDigits}
use Rattle.x690.specs.Strict.{tag_digits}
use Rattle.x690.specs.Laws.Digits.{HaveBit8To}
use Rattle.x690.specs.Laws.StrictIdentifiers.{tag_digits_are, tag_digits_value, tag_digits_few, tag_digits_needed}
use Rattle.x690.specs.Laws.StrictIdentifiers.{only_tag_digits, value_lt}
use Rattle.x690.specs.Arcs.{in_front, pieces_of, subidentifiers, first_arc, second_arc, IsFirstPair, with_first_split}
use Rattle.x690.specs.Arcs.{absolute_arcs, arcs_of, IsShortestPiece, AreShortest, AreAbsoluteArcs, subidentifier_octets}
use Rattle.x690.specs.Arcs.{with_first_joined, arcs_octets}

-- Pieces.

-- An octet whose bit 8 is 0 is a piece of its own.
pub last_piece : (last : ℕ) (rest : List ℕ) → last < 128 → pieces_of (last ∷ rest) ≡ (last ∷ []) ∷ pieces_of rest
last_piece last rest h = grind (arith, nat_tests)

-- One whose bit 8 is 1 stands in front of the piece behind it.
pub more_piece : (digit : ℕ) (rest : List ℕ) → 128 ≤ digit → pieces_of (digit ∷ rest) ≡ in_front digit (pieces_of rest)
more_piece digit rest h = grind (arith, nat_tests)

-- complete digits at the front are the first piece
pub first_piece : (word rest : List ℕ) → AreTagDigits word → pieces_of (word ++ rest) ≡ word ∷ pieces_of rest
first_piece [] rest d = absurd d
first_piece (last ∷ []) rest d = last_piece last rest d
first_piece (digit ∷ next ∷ digits) rest d =
    more_piece digit (next ∷ digits ++ rest) d.0 ∙ ap (in_front digit) (first_piece (next ∷ digits) rest d.2)

-- Where octets have bit 8 up to a place, those behind the first have it up to one place less.
pub tail_bits : (i octet : ℕ) (octets : List ℕ) → HaveBit8To (suc i) (octet ∷ octets) → HaveBit8To i octets
tail_bits i octet octets h = λ k l. h (suc k) (omega arith)

-- the first piece ends with the first octet without bit 8
pub piece_ends : (i : ℕ) (octets : List ℕ) → HaveBit8To i octets → i < length octets → get_or octets i 0 < 128 →
    pieces_of octets ≡ take (suc i) octets ∷ pieces_of (drop (suc i) octets)
piece_ends i [] high within last = absurd (omega arith)
piece_ends zero (octet ∷ octets) high within last = last_piece octet octets last
piece_ends (suc i) (octet ∷ octets) high within last =
    more_piece octet octets (high 0 (omega arith))
    ∙ ap (in_front octet) (piece_ends i octets (tail_bits i octet octets high) (omega arith) last)

-- or, where there is none, with the octets
pub piece_is_truncated : (octet : ℕ) (octets : List ℕ) → HaveBit8To (length (octet ∷ octets)) (octet ∷ octets) →
    pieces_of (octet ∷ octets) ≡ (octet ∷ octets) ∷ []
piece_is_truncated octet [] high = more_piece octet [] (high 0 (omega arith))
piece_is_truncated octet (next ∷ octets) high =
    more_piece octet (next ∷ octets) (high 0 (omega arith))
    ∙ ap (in_front octet) (piece_is_truncated next octets (tail_bits (length (next ∷ octets)) octet (next ∷ octets) high))

front_joined : (octet : ℕ) (pieces : List (List ℕ)) → concat (in_front octet pieces) ≡ octet ∷ concat pieces
front_joined octet [] = refl
front_joined octet (piece ∷ pieces) = refl

joined_more : (octet : ℕ) (octets : List ℕ) → concat (pieces_of octets) ≡ octets → (octet < 128) ⊎ (128 ≤ octet) →
    concat (pieces_of (octet ∷ octets)) ≡ octet ∷ octets
joined_more octet octets e (inl h) = ap concat (last_piece octet octets h) ∙ ap (λ (xs : List ℕ). octet ∷ xs) e
joined_more octet octets e (inr h) =
    ap concat (more_piece octet octets h) ∙ front_joined octet (pieces_of octets) ∙ ap (λ (xs : List ℕ). octet ∷ xs) e

-- the pieces are all of the octets
pub pieces_joined : (content : List ℕ) → concat (pieces_of content) ≡ content
pieces_joined [] = refl
pieces_joined (octet ∷ octets) = joined_more octet octets (pieces_joined octets) (cases_lt octet 128)

-- no piece is empty
abbrev pub IsNonEmptyPiece : List ℕ → Type 0
IsNonEmptyPiece piece = piece ≢ []

some_in_front : (octet : ℕ) (pieces : List (List ℕ)) → All IsNonEmptyPiece pieces →
    All IsNonEmptyPiece (in_front octet pieces)
some_in_front octet [] a = All-cons IsNonEmptyPiece (octet ∷ []) [] (λ e. cc) (All-nil IsNonEmptyPiece)
some_in_front octet (piece ∷ pieces) a =
    All-cons IsNonEmptyPiece (octet ∷ piece) pieces (λ e. cc) (λ k d h. a (suc k) d (omega arith))

some_more : (octet : ℕ) (octets : List ℕ) → All IsNonEmptyPiece (pieces_of octets) → (octet < 128) ⊎ (128 ≤ octet) →
    All IsNonEmptyPiece (pieces_of (octet ∷ octets))
some_more octet octets a (inl h) =
    subst (All IsNonEmptyPiece) (sym (last_piece octet octets h))
    (All-cons IsNonEmptyPiece (octet ∷ []) (pieces_of octets) (λ e. cc) a)
some_more octet octets a (inr h) =
    subst (All IsNonEmptyPiece) (sym (more_piece octet octets h)) (some_in_front octet (pieces_of octets) a)

pub pieces_some : (content : List ℕ) → All IsNonEmptyPiece (pieces_of content)
pieces_some [] = All-nil IsNonEmptyPiece
pieces_some (octet ∷ octets) = some_more octet octets (pieces_some octets) (cases_lt octet 128)

-- Subidentifiers.

-- numbers are the subidentifiers of their digits
pub subidentifiers_back : (ns : List ℕ) → subidentifiers (subidentifier_octets ns) ≡ ns
subidentifiers_back [] = refl
subidentifiers_back (n ∷ ns) =
    ap (map base_128_value) (first_piece (tag_digits n) (subidentifier_octets ns) (tag_digits_are n))
    ∙ ap (λ (m : ℕ). m ∷ subidentifiers (subidentifier_octets ns)) (tag_digits_value n)
    ∙ ap (λ (ms : List ℕ). n ∷ ms) (subidentifiers_back ns)

-- a shortest piece is made of its number alone
shortest_made : (piece : List ℕ) → IsShortestPiece piece → tag_digits (base_128_value piece) ≡ piece
shortest_made [] s = absurd s
shortest_made (digit ∷ digits) s = sym (only_tag_digits (base_128_value (digit ∷ digits)) (digit ∷ digits) s.0 s.1 refl)

pieces_made : (pieces : List (List ℕ)) → All IsShortestPiece pieces →
    subidentifier_octets (map base_128_value pieces) ≡ concat pieces
pieces_made [] s = refl
pieces_made (piece ∷ pieces) s =
    ap (λ (xs : List ℕ). xs ++ subidentifier_octets (map base_128_value pieces))
    (shortest_made piece (s 0 [] (omega arith)))
    ∙ ap (λ (xs : List ℕ). piece ++ xs) (pieces_made pieces (λ k d h. s (suc k) d (omega arith)))

-- and so are shortest contents octets
pub shortest_back : (content : List ℕ) → AreShortest content → subidentifier_octets (subidentifiers content) ≡ content
shortest_back content s = pieces_made (pieces_of content) s ∙ pieces_joined content

digits_shortest : (number : ℕ) (digits : List ℕ) → AreTagDigits digits → NeedsItsDigits number digits →
    IsShortestPiece digits
digits_shortest number [] a n = absurd a
digits_shortest number (digit ∷ digits) a n = (a, n.1)

one_digit : (n : ℕ) → n < 128 → n ∷ [] ≡ tag_digits n
one_digit n h = only_tag_digits n (n ∷ []) h (λ e. absurd (omega (arith, h, e))) (omega arith)

-- the digits of a number are a shortest piece
tag_digits_shortest : (n : ℕ) → IsShortestPiece (tag_digits n)
tag_digits_shortest n = elim (cases_lt n 31) [
  | inl h ↦ subst IsShortestPiece (one_digit n (omega arith)) (omega arith, λ e. absurd (omega (arith, h, e)))
  | inr h ↦ digits_shortest n (tag_digits n) (tag_digits_are n) (tag_digits_needed n h)
]

-- The octets of subidentifiers are pieces of the fewest octets.
pub subidentifiers_shortest : (ns : List ℕ) → AreShortest (subidentifier_octets ns)
subidentifiers_shortest [] = All-nil IsShortestPiece
subidentifiers_shortest (n ∷ ns) =
    subst (All IsShortestPiece) (sym (first_piece (tag_digits n) (subidentifier_octets ns) (tag_digits_are n)))
    (All-cons IsShortestPiece (tag_digits n) (pieces_of (subidentifier_octets ns)) (tag_digits_shortest n)
    (subidentifiers_shortest ns))

digits_few : (piece : List ℕ) → IsNonEmptyPiece piece → length (tag_digits (base_128_value piece)) ≤ length piece
digits_few [] s = absurd (s refl)
digits_few (digit ∷ digits) s =
    tag_digits_few (base_128_value (digit ∷ digits)) (length digits) (value_lt (digit ∷ digits))

pieces_few : (pieces : List (List ℕ)) → All IsNonEmptyPiece pieces →
    length (subidentifier_octets (map base_128_value pieces)) ≤ length (concat pieces)
pieces_few [] s = omega arith
pieces_few (piece ∷ pieces) s =
    let one = digits_few piece (s 0 [] (omega arith)) in
    let others = pieces_few pieces (λ k d h. s (suc k) d (omega arith)) in
    omega (
      arith,
      one,
      others,
      length-append (tag_digits (base_128_value piece)) (subidentifier_octets (map base_128_value pieces)),
      length-append piece (concat pieces),
    )

-- no octets of the subidentifiers are fewer than their digits
subidentifiers_few : (content : List ℕ) → length (subidentifier_octets (subidentifiers content)) ≤ length content
subidentifiers_few content = subst (λ (xs : List ℕ). length (subidentifier_octets (subidentifiers content)) ≤ length xs)
    (pieces_joined content) (pieces_few (pieces_of content) (pieces_some content))

-- The first pair.

-- a first pair is split off again
pub first_pair_back : (x y : ℕ) → IsFirstPair x y → (x ≡ first_arc (40 * x + y)) × (y ≡ second_arc (40 * x + y))
first_pair_back x y p = grind (arith, nat_tests)

-- each number is that of a first pair
pub first_pair_is : (n : ℕ) → IsFirstPair (first_arc n) (second_arc n) × (40 * first_arc n + second_arc n ≡ n)
first_pair_is n = grind (arith, nat_tests)

split_back : (arcs : List ℕ) (x y : ℕ) → IsFirstPair x y →
    with_first_split (with_first_joined (x ∷ y ∷ arcs)) ≡ x ∷ y ∷ arcs
split_back arcs x y p =
    let e = first_pair_back x y p in
    ap (λ (a : ℕ). a ∷ second_arc (40 * x + y) ∷ arcs) (sym e.0) ∙ ap (λ (b : ℕ). x ∷ b ∷ arcs) (sym e.1)

joined_back : (ns : List ℕ) → with_first_joined (with_first_split ns) ≡ ns
joined_back [] = refl
joined_back (n ∷ ns) = ap (λ (m : ℕ). m ∷ ns) (first_pair_is n).1

-- Arcs.

-- but for 00 alone the first subidentifier is split
pub split_but_zero : (content : List ℕ) → content ≢ 0 ∷ [] →
    absolute_arcs content ≡ with_first_split (subidentifiers content)
split_but_zero [] h = refl
split_but_zero (zero ∷ []) h = absurd (h refl)
split_but_zero (suc octet ∷ []) h = grind (arith, nat_tests)
split_but_zero (octet ∷ next ∷ octets) h = refl

zeros_alone : (x y : ℕ) (arcs : List ℕ) → (40 * x + y) ∷ arcs ≡ 0 ∷ [] → x ∷ y ∷ arcs ≡ 0 ∷ 0 ∷ []
zeros_alone x y arcs e =
    let sum : 40 * x + y ≡ 0 = cc in
    let none : arcs ≡ [] = cc in
    let first : x ≡ 0 = omega (arith, sum) in
    let second : y ≡ 0 = omega (arith, sum) in
    cc

-- arcs come back from their shortest contents octets
pub absolute_back : (arcs : List ℕ) → AreAbsoluteArcs arcs → arcs ≢ 0 ∷ 0 ∷ [] →
    arcs_of false (arcs_octets false arcs) ≡ arcs
absolute_back [] a h = absurd a
absolute_back (x ∷ []) a h =
    ap (λ (n : ℕ). arcs_of false (arcs_octets false (n ∷ []))) a ∙ ap (λ (n : ℕ). n ∷ []) (sym a)
absolute_back (x ∷ y ∷ arcs) a h =
    let ns = with_first_joined (x ∷ y ∷ arcs) in
    let back : subidentifiers (subidentifier_octets ns) ≡ ns = subidentifiers_back ns in
    let some : subidentifier_octets ns ≢ 0 ∷ [] = λ e. h (zeros_alone x y arcs (sym back ∙ ap subidentifiers e)) in
    split_but_zero (subidentifier_octets ns) some ∙ ap with_first_split back ∙ split_back arcs x y a

-- the shortest octets of the arcs are those of the subidentifiers
arcs_octets_are : (relative : Bool) (content : List ℕ) →
    arcs_octets relative (arcs_of relative content) ≡ subidentifier_octets (subidentifiers content)
arcs_octets_are true content = refl
arcs_octets_are false [] = refl
arcs_octets_are false (zero ∷ []) = refl
arcs_octets_are false (suc octet ∷ []) = ap (arcs_octets false) (split_but_zero (suc octet ∷ []) (λ e. cc))
    ∙ ap subidentifier_octets (joined_back (subidentifiers (suc octet ∷ [])))
arcs_octets_are false (octet ∷ next ∷ octets) =
    ap subidentifier_octets (joined_back (subidentifiers (octet ∷ next ∷ octets)))

-- So are those of arcs.
pub arcs_octets_shortest : (relative : Bool) (arcs : List ℕ) → AreShortest (arcs_octets relative arcs)
arcs_octets_shortest true arcs = subidentifiers_shortest arcs
arcs_octets_shortest false arcs = subidentifiers_shortest (with_first_joined arcs)

-- shortest contents octets are made of their arcs alone
pub arcs_made : (relative : Bool) (content : List ℕ) → AreShortest content →
    arcs_octets relative (arcs_of relative content) ≡ content
arcs_made relative content s = arcs_octets_are relative content ∙ shortest_back content s

-- so they are determined by their arcs
pub one_shortest : (relative : Bool) (content other : List ℕ) → AreShortest content → AreShortest other →
    arcs_of relative content ≡ arcs_of relative other → content ≡ other
one_shortest relative content other s t e =
    sym (arcs_made relative content s) ∙ ap (arcs_octets relative) e ∙ arcs_made relative other t

-- and no contents octets with these arcs are fewer
pub fewest_octets : (relative : Bool) (content : List ℕ) →
    length (arcs_octets relative (arcs_of relative content)) ≤ length content
fewest_octets relative content = subst (λ (xs : List ℕ). length xs ≤ length content)
    (sym (arcs_octets_are relative content)) (subidentifiers_few content)
