-- Arcs: what the contents octets of object identifiers say, and those of relative ones (X.690 8.19, 8.20).
use Rattle.std.specs.Prelude.{◌≡◌, ◌≢◌, ℕ, ◌+◌, ◌-◌, ◌*◌, ◌<◌, ◌≤◌, Bool, true, false, List, [], ◌∷◌, map, get_or}
use Rattle.std.specs.Prelude.{flat_map, decimal, nat_lt, if◌then◌else◌}
use Rattle.std.specs.List.{All, join_with_byte}
use Rattle.x690.specs.Digits.{base_128_value}
use Rattle.x690.specs.Identifiers.{AreTagDigits}
use Rattle.x690.specs.Strict.{tag_digits}

-- an octet in front of the first piece, or alone where there is none
abbrev pub in_front : ℕ → List (List ℕ) → List (List ℕ)
in_front octet [] = (octet ∷ []) ∷ []
in_front octet (piece ∷ pieces) = (octet ∷ piece) ∷ pieces

-- The octets, cut behind each one whose bit 8 is not set. What is left behind the last of these is a piece too.
abbrev pub pieces_of : List ℕ → List (List ℕ)
pieces_of [] = []
pieces_of (octet ∷ octets) =
    if nat_lt octet 128 then (octet ∷ []) ∷ pieces_of octets else in_front octet (pieces_of octets)

-- the number of each piece (8.19.2)
abbrev pub subidentifiers : List ℕ → List ℕ
subidentifiers content = map base_128_value (pieces_of content)

-- the first of them, and 0 where there are no octets
abbrev pub first_subidentifier : List ℕ → ℕ
first_subidentifier content = get_or (subidentifiers content) 0 0

-- X and Y of the first subidentifier 40 * X + Y, where X is 2 from 80 on (8.19.4)
abbrev pub first_arc : ℕ → ℕ
first_arc n = if nat_lt n 40 then 0 else if nat_lt n 80 then 1 else 2

-- the second arc that the first subidentifier says (8.19.4)
abbrev pub second_arc : ℕ → ℕ
second_arc n = n - 40 * first_arc n

-- such a pair: under 0 and 1 the second arc is below 40 (8.19.4)
abbrev pub IsFirstPair : ℕ → ℕ → Type 0
IsFirstPair x y = (x ≤ 2) × (x < 2 → y < 40)

-- the subidentifiers with two arcs in the place of the first of them
abbrev pub with_first_split : List ℕ → List ℕ
with_first_split [] = []
with_first_split (n ∷ ns) = first_arc n ∷ second_arc n ∷ ns

-- of an object identifier; the octet 00 alone is the one arc 0
abbrev pub absolute_arcs : List ℕ → List ℕ
absolute_arcs [] = []
absolute_arcs (octet ∷ []) = if nat_lt 0 octet then with_first_split (subidentifiers (octet ∷ [])) else 0 ∷ []
absolute_arcs (octet ∷ next ∷ octets) = with_first_split (subidentifiers (octet ∷ next ∷ octets))

-- The arcs that contents octets say, where `true` is of a relative identifier:
-- its arcs are the subidentifiers (8.20.2).
abbrev pub arcs_of : Bool → List ℕ → List ℕ
arcs_of true content = subidentifiers content
arcs_of false content = absolute_arcs content

-- a subidentifier that is complete, and whose first digit is not 0 (8.19.2)
abbrev pub IsShortestPiece : List ℕ → Type 0
IsShortestPiece [] = ⊥
IsShortestPiece (digit ∷ digits) = AreTagDigits (digit ∷ digits) × (digit ≢ 128)

-- each subidentifier is such
abbrev pub AreShortest : List ℕ → Type 0
AreShortest content = All IsShortestPiece (pieces_of content)

-- The same, told octet by octet: an octet that begins a subidentifier is not 80, and the last octet ends one.
-- `true` says that the next octet begins one.
abbrev pub AreShortestFrom : Bool → List ℕ → Type 0
AreShortestFrom start [] = start ≡ true
AreShortestFrom start (octet ∷ octets) = (start ≡ true → octet ≢ 128) × AreShortestFrom (nat_lt octet 128) octets

-- each subidentifier has its last octet
abbrev pub AreComplete : List ℕ → Type 0
AreComplete content = All AreTagDigits (pieces_of content)

-- arcs of an object identifier: the one arc 0, or a first pair and any more
abbrev pub AreAbsoluteArcs : List ℕ → Type 0
AreAbsoluteArcs [] = ⊥
AreAbsoluteArcs (x ∷ []) = x ≡ 0
AreAbsoluteArcs (x ∷ y ∷ arcs) = IsFirstPair x y

-- the digits of each number (8.19.2)
abbrev pub subidentifier_octets : List ℕ → List ℕ
subidentifier_octets ns = flat_map tag_digits ns

-- the arcs with one subidentifier in the place of the first two
abbrev pub with_first_joined : List ℕ → List ℕ
with_first_joined [] = []
with_first_joined (x ∷ []) = x ∷ []
with_first_joined (x ∷ y ∷ arcs) = (40 * x + y) ∷ arcs

-- the shortest contents octets of arcs, as a function
abbrev pub arcs_octets : Bool → List ℕ → List ℕ
arcs_octets true arcs = subidentifier_octets arcs
arcs_octets false arcs = subidentifier_octets (with_first_joined arcs)

-- the arcs in decimal, with points between them
abbrev pub arcs_text : List ℕ → List ℕ
arcs_text arcs = join_with_byte 46 (map decimal arcs)
