-- Sets of small numbers.
use Rattle.std.specs.Prelude.{ℕ, ℤ, List, ◌++◌, length, true, false}
use Rattle.x690.specs.Collections.{Multiset, multiset}
use Rattle.x690.specs.Integers.{unsigned_octets}
use Rattle.x690.specs.Signed.{IsSigned, signed_octets}
use Rattle.x690.specs.Strict.{header_octets}
use Rattle.asn1_rs.specs.Grammar.{DerWord, NoCheck}
use Rattle.asn1_rs.specs.Integer.{IntegerBody, IntegerCheck, IsUnsigned}
use Rattle.asn1_rs.specs.Set.{Members, SetBody, SetRow, set_content, set_of}

-- the words of a number of one octet, without and with a sign, by DER
abbrev pub SmallNumber : List ℕ → ℤ → Type 0
SmallNumber = DerWord IntegerCheck (IntegerBody (IsUnsigned 1))

-- a number of one octet with a sign, by DER
abbrev pub SmallSigned : List ℕ → ℤ → Type 0
SmallSigned = DerWord IntegerCheck (IntegerBody (IsSigned 1))

-- The words of sets of such numbers: the number's words, joined in any order.
-- Of the first kind a number may stand more than once.
abbrev pub CountedNumbers : List ℕ → Multiset ℤ → Type 0
CountedNumbers = DerWord NoCheck (SetRow multiset SmallNumber)

-- a set of distinct small numbers, by DER
abbrev pub DistinctNumbers : List ℕ → Members ℤ → Type 0
DistinctNumbers = DerWord NoCheck (SetBody set_of SmallNumber)

-- a set of distinct small numbers with a sign, by DER
abbrev pub DistinctSigned : List ℕ → Members ℤ → Type 0
DistinctSigned = DerWord NoCheck (SetBody set_of SmallSigned)

-- what is written for a number with a sign
abbrev pub signed_number_octets : ℤ → List ℕ
signed_number_octets n = header_octets 0 false 2 (length (signed_octets n)) ++ signed_octets n

-- the strict encoding of a small number
abbrev pub small_number_octets : ℕ → List ℕ
small_number_octets n = header_octets 0 false 2 (length (unsigned_octets n)) ++ unsigned_octets n

-- and for sets: the numbers' octets, joined in ascending order
abbrev pub in_set : List ℕ → List ℕ
in_set content = header_octets 0 true 17 (length content) ++ content

-- the strict encoding of a set of small numbers
abbrev pub set_octets : List ℕ → List ℕ
set_octets numbers = in_set (set_content small_number_octets numbers)

-- the strict encoding of a set of small numbers with a sign
abbrev pub signed_set_octets : List ℤ → List ℕ
signed_set_octets numbers = in_set (set_content signed_number_octets numbers)
