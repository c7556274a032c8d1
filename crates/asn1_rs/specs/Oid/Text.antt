-- The texts of object identifiers: their arcs, or their octets where an arc is too great.
use Rattle.std.specs.Prelude.{ℕ, ◌/◌, ◌%◌, ◌^◌, Bool, true, false, List, [], ◌∷◌, ◌++◌, map, nat_lt, if◌then◌else◌}
use Rattle.std.specs.Prelude.{codes, ◌≡◌, ◌+◌, ◌<◌, ◌≤◌, Option, Some, None, length, take}
use Rattle.std.specs.List.{list_all, join_with_byte}
use Rattle.std.specs.Fmt.{digit_glyph}
use Rattle.x690.specs.Arcs.{arcs_of, arcs_text}

-- an octet in two lower-case hexadecimal digits
abbrev pub hex_octet : ℕ → List ℕ
hex_octet octet = digit_glyph false (octet / 16) ∷ digit_glyph false (octet % 16) ∷ []

-- octets so, with spaces between them
abbrev pub hex_text : List ℕ → List ℕ
hex_text octets = join_with_byte 32 (map hex_octet octets)

-- each is below 2^64
abbrev pub are_small : List ℕ → Bool
are_small arcs = list_all (λ arc. nat_lt arc (2 ^ 64)) arcs

-- the text of contents octets: their arcs in decimal with points between them,
-- or the octets where an arc is 2^64 or more
abbrev pub id_text : Bool → List ℕ → List ℕ
id_text relative octets =
    if are_small (arcs_of relative octets) then arcs_text (arcs_of relative octets) else hex_text octets

-- what a relative identifier's text is printed behind
abbrev pub shown_text : Bool → List ℕ → List ℕ
shown_text true octets = codes "rel. " ++ id_text true octets
shown_text false octets = id_text false octets

-- the same in brackets
abbrev pub debug_text : Bool → List ℕ → List ℕ
debug_text relative octets = codes "OID(" ++ shown_text relative octets ++ codes ")"

-- What putting a text behind the first octets of a buffer answers. It is where the text ends, and then the octets up to
-- there are the first ones and the text. It is nothing where the buffer has no room for it.
abbrev pub PutsBehind : ℕ → List ℕ → List ℕ → Option ℕ → List ℕ → Type 0
PutsBehind at old text (Some end) new =
    (end ≡ at + length text) × (end ≤ length new) × (take end new ≡ take at old ++ text)
PutsBehind at old text None new = length old < at + length text
