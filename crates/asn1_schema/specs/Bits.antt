-- Contents octets of bit strings, told by their octets.
use Rattle.std.specs.Prelude.{ℕ, zero, suc, ◌≤◌, ◌*◌, ◌-◌, ◌/◌, ◌%◌, ◌≡◌, Bool, nat_eq, List, ◌++◌, length, map, drop, take}
use Rattle.asn1_schema.specs.declared.coding.Coding.{Coding}
use Rattle.asn1_schema.specs.declared.tape.Item.{Item}
use Rattle.asn1_schema.specs.declared.pieces.Sort.TheVariants as sorts
use Rattle.asn1_schema.specs.Values.{Value, bits, leaf, joined}
use Rattle.asn1_schema.specs.Tape.{Mark, marks}
use Rattle.asn1_schema.specs.Grammar.{digits_2, bits_in, trimmed, IsBitContent, of_bits}
use Rattle.asn1_schema.specs.Pieces.{ArePieces, piece_mark}
use Rattle.asn1_schema.specs.Reading.{rules_of}

-- the last bits of a number are zeros
abbrev pub LowZero : ℕ → ℕ → Type 0
LowZero zero n = Unit {0}
LowZero (suc u) n = (n % 2 ≡ 0) × LowZero u (n / 2)

-- so many bits of the octets may be unused
abbrev pub MayBeUnused : Coding → ℕ → List ℕ → Type 0
MayBeUnused e u o = (u ≤ 7) × (u ≤ 8 * length o) × (rules_of e).Unused (drop (8 * length o - u) (bits_in o))

-- the bit of a number behind which so many others stand
abbrev pub bit_at : ℕ → ℕ → Bool
bit_at zero n = nat_eq (n % 2) 1
bit_at (suc place) n = bit_at place (n / 2)

-- the bits of octets, but for those that are unused
abbrev pub used_bits : ℕ → List ℕ → List Bool
used_bits unused octets = take (8 * length octets - unused) (bits_in octets)

-- the bits of an octet, but for so many last ones
abbrev pub first_bits : ℕ → ℕ → List Bool
first_bits unused octet = take (8 - unused) (digits_2 8 octet)

-- the value of bits with names: these without the zeros at their end (X.680 22.7)
abbrev pub IsNamed : Coding → List Bool → Value → Type 0
IsNamed e bs v = (v ≡ leaf (bits (trimmed bs))) × (rules_of e).Named bs

-- bits with names that contents octets say, in one piece and in several
abbrev pub IsNamedPrimitive : Coding → List ℕ → Value → Type 0
IsNamedPrimitive e content v = (bs : List Bool) × IsNamed e bs v × IsBitContent (rules_of e) content bs

abbrev pub IsNamedConstructed : Coding → ℕ → List ℕ → Value → Type 0
IsNamedConstructed e depth content v = (bs : List Bool) × IsNamed e bs v ×
    ArePieces e (of_bits (rules_of e)) depth content bs

-- pieces are those of the bits without the zeros at their end
pub record TrimsPieces (front : List Mark) (pieces : List (List Bool)) (new : List Item) : Type 0 where
  pub left : List (List Bool)
  pub is : marks new ≡ front ++ map (piece_mark sorts.Bits) left
  pub trims : joined left ≡ trimmed (joined pieces)
