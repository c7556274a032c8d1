-- Integers as elements (X.690 8.3).
pub mod Machine
pub mod Octets
use Rattle.std.specs.Prelude.{◌≡◌, ◌≢◌, ◌⊎◌, ℕ, ℤ, ◌<◌, ◌≤◌, ◌^◌, true, false, List, [], get_or, pos, Some, Result, Ok}
use Rattle.std.specs.Prelude.{Err}
use Rattle.x690.specs.Digits.{base_256_value, twos_complement_value}
use Rattle.x690.specs.Identifiers.{Identifier}
use Rattle.x690.specs.Lengths.{indefinite}
use Rattle.x690.specs.Elements.{Parts}
use Rattle.x690.specs.Integers.{HasRedundantZeros, HasRedundantOnes, IsShortestInteger, IsIntegerContent}
use Rattle.x690.specs.Signed.{IsSigned}
use Rattle.asn1_headers.specs.declared.error.Error.{Error}
use Rattle.asn1_headers.specs.declared.error.Error.TheVariants.{UnexpectedTag, ConstructUnexpected}
use Rattle.asn1_headers.specs.declared.error.Error.TheVariants.{IndefiniteLengthUnexpected, IntegerNegative}
use Rattle.asn1_headers.specs.declared.error.Error.TheVariants.{IntegerTooLarge, DerConstraintFailed}
use Rattle.asn1_headers.specs.declared.error.DerConstraint.TheVariants.{IntegerEmpty, IntegerLeadingZeroes}
use Rattle.asn1_headers.specs.declared.error.DerConstraint.TheVariants.{IntegerLeadingFF}
use Rattle.asn1_rs.specs.Checks.{IsPrimitive, IsCounted}
use Rattle.asn1_rs.specs.Kinds.{ElementGrammar}
use Rattle.asn1_rs.specs.Grammar.Form.{UniversalForm}

-- the number of the tag of integers
abbrev pub integer_number : ℕ
integer_number = 2

-- What the constraints ask of an integer: a primitive element of definite length,
-- whose contents octets are the fewest (X.690 8.3.1, 8.3.2, 10.1).
pub record IntegerCheck (p : Parts) : Type 0 where
  pub primitive : IsPrimitive p
  pub counted : IsCounted p
  pub shortest : IsShortestInteger p.content

-- the refusal of the first of these checks that fails
abbrev pub IntegerCheckRefuses : Parts → Error → Type 0
IntegerCheckRefuses p ConstructUnexpected = p.id.constructed ≡ true
IntegerCheckRefuses p IndefiniteLengthUnexpected = IsPrimitive p × (p.form ≡ indefinite)
IntegerCheckRefuses p (DerConstraintFailed IntegerEmpty) = IsPrimitive p × IsCounted p × (p.content ≡ [])
IntegerCheckRefuses p (DerConstraintFailed IntegerLeadingZeroes) = IsPrimitive p × IsCounted p × HasRedundantZeros p.content
IntegerCheckRefuses p (DerConstraintFailed IntegerLeadingFF) = IsPrimitive p × IsCounted p × HasRedundantOnes p.content
IntegerCheckRefuses p _ = ⊥

-- What the constraints of an integer may answer.
abbrev pub IntegerCheckGives : Parts → Result (Unit {0}) Error → Type 0
IntegerCheckGives p (Ok x) = IntegerCheck p
IntegerCheckGives p (Err e) = IntegerCheckRefuses p e

-- The number of a primitive element with the tag number of integers, in two's complement, where the type holds it. No
-- octets say 0, and octets that could be left out say nothing.
pub record IntegerBody (Holds : ℤ → Type 0) (p : Parts) (n : ℤ) : Type 0 where
  pub number : p.id.number ≡ integer_number
  pub primitive : IsPrimitive p
  pub value : n ≡ twos_complement_value p.content
  pub held : Holds n

-- a primitive element with the tag number of integers, or the refusal of the first of these that fails
abbrev pub IsIntegerOr : Parts → Result (Unit {0}) Error → Type 0
IsIntegerOr p (Ok x) = (p.id.number ≡ integer_number) × IsPrimitive p
IsIntegerOr p (Err e) =
    ((p.id.number ≢ integer_number) ×
    (e ≡ UnexpectedTag (Some (record { 0 = integer_number })) (record { 0 = p.id.number }))) ⊎
    ((p.id.number ≡ integer_number) × (p.id.constructed ≡ true) × (e ≡ ConstructUnexpected))

-- the refusal of the first of these that fails; of a number that the type does not hold, that of its contents octets
abbrev pub IntegerRefuses : (List ℕ → Error → Type 0) → Parts → Error → Type 0
IntegerRefuses content_refuses p e = IsIntegerOr p (Err e) ⊎ (IsIntegerOr p (Ok tt) × content_refuses p.content e)

-- What the conversion to an integer may answer, for the integers that the type holds.
abbrev pub IntegerGives : {T : Type 0} → (T → ℤ) → (ℤ → Type 0) → (List ℕ → Error → Type 0) → Parts →
    Result T Error → Type 0
IntegerGives number Holds content_refuses p (Ok x) = IntegerBody Holds p (number x)
IntegerGives number Holds content_refuses p (Err e) = IntegerRefuses content_refuses p e

-- the strict contents octets of a number that the type holds
abbrev pub IntegerContent : (ℤ → Type 0) → ℤ → List ℕ → Type 0
IntegerContent Holds n c = Holds n × IsIntegerContent n c

-- The strict parts of an integer that the type holds.
abbrev pub IntegerForm : (ℤ → Type 0) → ℤ → Identifier → List ℕ → Type 0
IntegerForm Holds = UniversalForm false integer_number (IntegerContent Holds)

-- integers of a type that holds these, as elements
abbrev pub integer_element : {S : Type 0} → (S → ℤ) → (ℤ → Type 0) → ElementGrammar S
integer_element number Holds = record {
  Value = ℤ;
  value = number;
  IsValue = Holds;
  IsDer = Holds;
  Body = IntegerBody Holds;
  Check = IntegerCheck;
  Form = IntegerForm Holds;
  allocates = false;
}

-- the natural numbers of so many octets
abbrev pub IsUnsigned : ℕ → ℤ → Type 0
IsUnsigned size n = (k : ℕ) × (n ≡ pos k) × (k < 256 ^ size)

-- a number below 0 is refused as such, and one past the greatest as too large
abbrev pub UnsignedRefuses : ℕ → List ℕ → Error → Type 0
UnsignedRefuses size content IntegerNegative = 128 ≤ get_or content 0 0
UnsignedRefuses size content IntegerTooLarge = (get_or content 0 0 < 128) × (256 ^ size ≤ base_256_value content)
UnsignedRefuses size content _ = ⊥

-- what the conversion to a natural number of so many octets may answer
abbrev pub UnsignedGives : ℕ → Parts → Result ℕ Error → Type 0
UnsignedGives size = IntegerGives pos (IsUnsigned size) (UnsignedRefuses size)

-- a number that so many octets do not hold is too large
abbrev pub SignedRefuses : ℕ → List ℕ → Error → Type 0
SignedRefuses size content e = (¬ IsSigned size (twos_complement_value content)) × (e ≡ IntegerTooLarge)

-- what the conversion to an integer of so many octets may answer
abbrev pub SignedGives : ℕ → Parts → Result ℤ Error → Type 0
SignedGives size = IntegerGives (λ n. n) (IsSigned size) (SignedRefuses size)
