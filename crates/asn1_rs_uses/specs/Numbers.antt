-- Numbers of eight octets, by BER and by DER.
use Rattle.std.specs.Prelude.{◌≡◌, ℕ, ℤ, List, false, pos}
use Rattle.asn1_headers.specs.declared.error.Err.{Err as Refusal}
use Rattle.asn1_headers.specs.declared.error.Error.{Error}
use Rattle.asn1_headers.specs.Answers.{TellsMemory}
use Rattle.asn1_rs.specs.Grammar.Form.{IsStrict}
use Rattle.asn1_rs.specs.Grammar.{BerWord, DerWord}
use Rattle.asn1_rs.specs.Integer.{IntegerBody, IntegerCheck, IntegerForm, IsUnsigned}

-- the words by BER and by DER, with their numbers
abbrev pub NumberByBer : List ℕ → ℤ → Type 0
NumberByBer = BerWord (IntegerBody (IsUnsigned 8))

-- a number of eight octets at most, by DER
abbrev pub NumberByDer : List ℕ → ℤ → Type 0
NumberByDer = DerWord IntegerCheck (IntegerBody (IsUnsigned 8))

-- the octets are the strict encoding of the number
abbrev pub IsStrictNumber : ℕ → List ℕ → Type 0
IsStrictNumber x octets = IsStrict (IntegerForm (IsUnsigned 8)) (pos x) octets

-- reading a number does not allocate, so no refusal reports out of memory
abbrev pub NoMemory : Refusal Error → Type 0
NoMemory = TellsMemory false (λ e f. f ≡ e)
