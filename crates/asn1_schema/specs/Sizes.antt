-- Sizes of strings in pieces.
use Rattle.std.specs.Prelude.{ℕ, ℤ, pos, ◌+◌, ◌/◌, List, [], ◌∷◌, length, Option, Some, None}
use Rattle.asn1_schema.specs.declared.schema.TextKind.{TextKind}
use Rattle.asn1_schema.specs.declared.schema.TextKind.TheVariants as texts
use Rattle.asn1_schema.specs.Values.{bits, octets, text, leads}
use Rattle.asn1_schema.specs.Tape.{Mark, leaf_mark}

-- what is counted of characters: the octets that begin one in UTF-8, and else all octets
abbrev pub text_units : TextKind → List ℕ → ℕ
text_units texts.Utf8 o = leads o
text_units _ o = length o

-- how many characters so many are
abbrev pub size_of_text : TextKind → ℕ → ℕ
size_of_text texts.Bmp n = n / 2
size_of_text texts.Universal n = n / 4
size_of_text _ n = n

-- what is counted of a piece of octets or of characters
abbrev pub units : Mark → ℕ
units (leaf_mark (octets o)) = length o
units (leaf_mark (text kind o)) = text_units kind o
units _ = 0

abbrev pub all_units : List Mark → ℕ
all_units [] = 0
all_units (m ∷ ms) = units m + all_units ms

-- the bits of a piece of bits
abbrev pub bit_count : Mark → ℕ
bit_count (leaf_mark (bits bs)) = length bs
bit_count _ = 0

abbrev pub all_bits : List Mark → ℕ
all_bits [] = 0
all_bits (m ∷ ms) = bit_count m + all_bits ms

-- the size of the string that pieces join to, told by the first one
abbrev pub pieces_measure : List Mark → Option ℤ
pieces_measure (leaf_mark (octets o) ∷ ms) = Some (pos (length o + all_units ms))
pieces_measure (leaf_mark (text kind o) ∷ ms) = Some (pos (size_of_text kind (text_units kind o + all_units ms)))
pieces_measure (leaf_mark (bits bs) ∷ ms) = Some (pos (length bs + all_bits ms))
pieces_measure _ = None
