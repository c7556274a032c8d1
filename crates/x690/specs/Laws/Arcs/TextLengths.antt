-- How long the texts of arcs are.
use Rattle.std.proofs.Common.{◌≡◌, ◌≢◌, ℕ, zero, suc, ◌+◌, ◌*◌, ◌^◌, ◌<◌, ◌≤◌, Bool, true, false, List, [], ◌∷◌}
use Rattle.std.proofs.Common.{length, map, decimal, ap, refl, ◌∙◌, subst, arith, length-append}
use Rattle.std.proofs.Math.Nat.{pow-suc}
use Rattle.std.specs.List.{All, concat}
use Rattle.std.proofs.lemmas.Fmt.{decimal_digit, length-decimal-le}
use Rattle.std.proofs.lemmas.Nat.{pow-add}
use Rattle.x690.specs.Arcs.{pieces_of, first_arc, second_arc, with_first_split, absolute_arcs, arcs_of}
use Rattle.x690.specs.Arcs.{arcs_text}
use Rattle.x690.specs.Digits.{base_128_value}
use Rattle.x690.specs.Laws.Arcs.{IsNonEmptyPiece, pieces_some, pieces_joined, first_pair_is, split_but_zero}
use Rattle.x690.specs.Laws.StrictIdentifiers.{value_lt}

-- the text of each arc, and an octet more for each
abbrev room : List ℕ → ℕ
room [] = 0
room (arc ∷ arcs) = 1 + length (decimal arc) + room arcs

text_fits : (arcs : List ℕ) → length (arcs_text arcs) ≤ room arcs
text_fits [] = omega arith
text_fits (arc ∷ []) = omega arith
text_fits (arc ∷ next ∷ arcs) =
    omega (arith, length-append (decimal arc) (46 ∷ arcs_text (next ∷ arcs)), text_fits (next ∷ arcs))

-- seven bits have three digits at most
power_fits : (k : ℕ) → 128 ^ k ≤ 10 ^ (3 * k)
power_fits zero = omega arith
power_fits (suc k) =
    let bits : 128 ^ suc k ≡ 128 ^ k * 128 = pow-suc 128 k in
    let more : 3 * suc k ≡ 3 * k + 3 = omega arith in
    let digits : 10 ^ (3 * suc k) ≡ 10 ^ (3 * k) * 1000 = ap (λ j. 10 ^ j) more ∙ pow-add 10 (3 * k) 3 in
    omega (arith, bits, digits, power_fits k)

abbrev AreSmall : List ℕ → Type 0
AreSmall arcs = All (λ arc. arc < 2 ^ 64) arcs

decimal_fits : (piece : List ℕ) (arc : ℕ) → piece ≢ [] → arc ≤ base_128_value piece → arc < 2 ^ 64 →
    length (decimal arc) ≤ 3 * length piece
decimal_fits [] arc some most small = absurd (some refl)
decimal_fits (digit ∷ digits) arc some most small =
    let k = length (digit ∷ digits) in
    length-decimal-le (3 * k) arc (omega arith) (omega (arith, value_lt (digit ∷ digits), power_fits k)) small

piece_some : (piece : List ℕ) → piece ≢ [] → 0 < length piece
piece_some [] some = absurd (some refl)
piece_some (digit ∷ digits) some = omega arith

-- arcs, the first of which is not more than what its piece says
pieces_fit : (arc : ℕ) (piece : List ℕ) (pieces : List (List ℕ)) → arc ≤ base_128_value piece → arc < 2 ^ 64 →
    All IsNonEmptyPiece (piece ∷ pieces) → AreSmall (map base_128_value pieces) →
    room (arc ∷ map base_128_value pieces) ≤ 4 * length (concat (piece ∷ pieces))
pieces_fit arc piece [] most small some others =
    omega (
      arith,
      decimal_fits piece arc (some 0 [] (omega arith)) most small,
      length-append piece [],
      piece_some piece (some 0 [] (omega arith)),
    )
pieces_fit arc piece (next ∷ pieces) most small some others =
    omega (
      arith,
      decimal_fits piece arc (some 0 [] (omega arith)) most small,
      length-append piece (concat (next ∷ pieces)),
      piece_some piece (some 0 [] (omega arith)),
      pieces_fit (base_128_value next) next pieces (omega arith) (others 0 0 (omega arith))
          (λ k d h. some (suc k) d (omega arith)) (λ k d h. others (suc k) d (omega arith)),
    )

all_fit : (pieces : List (List ℕ)) → All IsNonEmptyPiece pieces → AreSmall (map base_128_value pieces) →
    room (map base_128_value pieces) ≤ 4 * length (concat pieces)
all_fit [] some small = omega arith
all_fit (piece ∷ pieces) some small =
    pieces_fit (base_128_value piece) piece pieces (omega arith) (small 0 0 (omega arith)) some
    (λ k d h. small (suc k) d (omega arith))

split_fit : (pieces : List (List ℕ)) → All IsNonEmptyPiece pieces →
    AreSmall (with_first_split (map base_128_value pieces)) →
    room (with_first_split (map base_128_value pieces)) ≤ 4 * length (concat pieces) + 2
split_fit [] some small = omega arith
split_fit (piece ∷ pieces) some small =
    let n = base_128_value piece in
    let pair = first_pair_is n in
    let digit : length (decimal (first_arc n)) ≡ 1 = ap length (decimal_digit (first_arc n) (omega (arith, pair.0.0)))
    in
    let second = pieces_fit (second_arc n) piece pieces (omega (arith, pair.1)) (small 1 0 (omega arith)) some
    (λ k d h. small (suc (suc k)) d (omega arith)) in
    omega (arith, digit, second)

-- the octets are those of the pieces
whole : (content : List ℕ) → length (concat (pieces_of content)) ≡ length content
whole content = ap length (pieces_joined content)

but_zero : (content : List ℕ) → content ≢ 0 ∷ [] → AreSmall (absolute_arcs content) →
    room (absolute_arcs content) ≤ 4 * length content + 2
but_zero content some small =
    let e = split_but_zero content some in
    let fits = split_fit (pieces_of content) (pieces_some content) (subst AreSmall e small) in
    omega (arith, fits, whole content, ap room e)

room_fits : (relative : Bool) (content : List ℕ) → AreSmall (arcs_of relative content) →
    room (arcs_of relative content) ≤ 4 * length content + 2
room_fits true content small =
    omega (arith, all_fit (pieces_of content) (pieces_some content) small, whole content)
room_fits false [] small = omega arith
room_fits false (zero ∷ []) small = omega (arith, ap length (decimal_digit 0 (omega arith)))
room_fits false (suc octet ∷ []) small = but_zero (suc octet ∷ []) (λ e. cc) small
room_fits false (octet ∷ next ∷ octets) small = but_zero (octet ∷ next ∷ octets) (λ e. cc) small

-- four octets for each contents octet, and two for the first arc
pub short_texts : (relative : Bool) (content : List ℕ) → AreSmall (arcs_of relative content) →
    length (arcs_text (arcs_of relative content)) ≤ 4 * length content + 2
short_texts relative content small =
    omega (arith, text_fits (arcs_of relative content), room_fits relative content small)
