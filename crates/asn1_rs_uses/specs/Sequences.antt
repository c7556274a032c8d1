-- Sequences of numbers, and how they are written.
use Rattle.std.specs.Prelude.{◌≡◌, ℕ, ℤ, List, ◌++◌, length, true, false}
use Rattle.std.specs.List.{flat_map}
use Rattle.x690.specs.Integers.{unsigned_octets}
use Rattle.x690.specs.Strict.{header_octets}
use Rattle.asn1_headers.specs.declared.error.Err.{Err as Refusal}
use Rattle.asn1_headers.specs.declared.error.Error.{Error}
use Rattle.asn1_headers.specs.Answers.{TellsMemory}
use Rattle.asn1_rs.specs.Grammar.{DerWord, NoCheck}
use Rattle.asn1_rs.specs.Integer.{IntegerBody, IntegerCheck, IsUnsigned}
use Rattle.asn1_rs.specs.Lists.{ListOf}

-- a number of four octets at most, by DER
abbrev pub ShortNumber : List ℕ → ℤ → Type 0
ShortNumber = DerWord IntegerCheck (IntegerBody (IsUnsigned 4))

-- a sequence of such numbers, by DER
abbrev pub ShortNumbers : List ℕ → List ℤ → Type 0
ShortNumbers = DerWord NoCheck (ListOf 16 ShortNumber)

-- the strict encoding of a number
abbrev pub number_octets : ℕ → List ℕ
number_octets n = header_octets 0 false 2 (length (unsigned_octets n)) ++ unsigned_octets n

-- the strict encoding of a sequence with these contents octets
abbrev pub in_sequence : List ℕ → List ℕ
in_sequence content = header_octets 0 true 16 (length content) ++ content

-- the strict encoding of a sequence of numbers
abbrev pub numbers_octets : List ℕ → List ℕ
numbers_octets numbers = in_sequence (flat_map number_octets numbers)

-- reading numbers allocates, and out of memory may be reported
abbrev pub WantsMemory : Refusal Error → Type 0
WantsMemory = TellsMemory true (λ e f. f ≡ e)
