-- Bit strings (X.690 8.6, 11.2).
use Rattle.std.specs.Prelude.{◌≡◌, ℕ, ◌+◌, ◌-◌, ◌*◌, ◌/◌, ◌%◌, ◌<◌, ◌≤◌, List, [], ◌∷◌, length, get_or, drop}
use Rattle.std.specs.Cow.{cow_slice_items}
use Rattle.std.specs.Int.{bit_at}
use Rattle.x690.specs.Octets.{IsOctets}
use Rattle.asn1_rs.specs.declared.asn1_types.bit_string.BitString.{BitString}
use Rattle.asn1_headers.specs.declared.error.Error.TheVariants.{InvalidLength, DerConstraintFailed}
use Rattle.asn1_headers.specs.declared.error.DerConstraint.TheVariants.{UnusedBitsNotZero}
use Rattle.asn1_rs.specs.Checks.{CheckGives, ◌before◌, is_primitive, has_content, content_check}
use Rattle.asn1_rs.specs.Leaf.{Leaf}

-- the number of the tag of bit strings
abbrev pub bit_string_number : ℕ
bit_string_number = 3

-- The bits of some octets, but for so many unused ones at the end of the last octet.
pub record Bits : Type 0 where
  pub unused : ℕ
  pub octets : List ℕ
  deriving IsSet as Bits-set

-- Bit i of the octets, counted from the highest bit of the first octet, which is bit 0 (8.6.2.1).
-- It is 0 past their end.
abbrev pub bit_of : List ℕ → ℕ → ℕ
bit_of octets i = bit_at (get_or octets (i / 8) 0) (7 - i % 8)

-- what some contents octets say: the first one is the count of unused bits, and the others have the bits (8.6.2.2)
abbrev pub bits_of_content : List ℕ → Bits
bits_of_content content = record { unused = get_or content 0 0; octets = drop 1 content }

-- where there is no bit, none is unused (8.6.2.3)
abbrev pub IsEmptyOrCounts : Bits → Type 0
IsEmptyOrCounts v = v.octets ≡ [] → v.unused ≡ 0

-- each unused bit, from where so many are left, is zero (11.2.1)
abbrev pub HasZeroUnused : Bits → Type 0
HasZeroUnused v = (i : ℕ) → 8 * length v.octets ≤ i + v.unused → bit_of v.octets i ≡ 0

-- at most seven bits are unused (8.6.2.2), and these are zero
abbrev pub IsZeroPadded : Bits → Type 0
IsZeroPadded v = (v.unused ≤ 7) × HasZeroUnused v

-- the strict ones: no bit is unused where there is none, else at most seven are, and these are zero
pub record AreStrictBits (v : Bits) : Type 0 where
  pub octets : IsOctets v.octets
  pub empty : IsEmptyOrCounts v
  pub padded : IsZeroPadded v

-- What the constraints ask: a primitive element (10.2) with a count of unused bits. The count is 0 where no bit
-- follows, and else at most 7, of bits that are zero.
abbrev pub bit_string_constraints : CheckGives
bit_string_constraints = is_primitive
    before has_content
    before content_check (λ c. IsEmptyOrCounts (bits_of_content c)) InvalidLength
    before content_check (λ c. IsZeroPadded (bits_of_content c)) (DerConstraintFailed UnusedBitsNotZero)

-- the octets of a bit string that have its bits
abbrev pub data_of : BitString → List ℕ
data_of x = cow_slice_items x.content

-- the bits of a bit string, and how many of them are unused
abbrev pub bits_of_string : BitString → Bits
bits_of_string x = record { unused = x.unused_bits; octets = data_of x }

-- An element with the tag number, primitive or constructed. Its first contents octet is the count of unused bits, also
-- one above 7, and the others have the bits.
abbrev pub bit_string_leaf : Leaf BitString
bit_string_leaf = record {
  number = bit_string_number;
  Value = Bits;
  value = bits_of_string;
  IsValue = λ v. (v.unused < 256) × IsOctets v.octets;
  IsDer = AreStrictBits;
  checks = has_content;
  Says = λ content v. content ≡ v.unused ∷ v.octets;
  constraints = bit_string_constraints;
  octets = λ v. v.unused ∷ v.octets;
}

-- the contents octets that are written of a bit string
abbrev pub bit_string_octets : BitString → List ℕ
bit_string_octets x = x.unused_bits ∷ data_of x
