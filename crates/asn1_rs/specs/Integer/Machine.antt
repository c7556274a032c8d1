-- Machine integers, and the contents octets of integers that they hold (X.690 8.3).
use Rattle.std.specs.Prelude.{◌≡◌, ℕ, ℤ, List, pos, Result, Ok, Err}
use Rattle.x690.specs.Octets.{IsOctets}
use Rattle.x690.specs.Digits.{twos_complement_value}
use Rattle.x690.specs.Integers.{IsIntegerContent, unsigned_octets}
use Rattle.x690.specs.Signed.{IsSigned, signed_octets}
use Rattle.asn1_headers.specs.declared.error.Error.{Error}
use Rattle.asn1_headers.specs.declared.error.Error.TheVariants.{OutOfMemory}
use Rattle.asn1_rs.specs.Integer.{IsUnsigned, UnsignedRefuses, SignedRefuses, IntegerGives, IntegerCheckGives}
use Rattle.asn1_rs.specs.Integer.{integer_element}
use Rattle.asn1_rs.specs.LeafReading.{LeafReading}
use Rattle.asn1_rs.specs.Traits.{OfParts}

-- The integer that a value is, and its strict contents octets. Which integers the type holds, and how octets of another
-- one are refused. Of types without a sign too it is an integer, so that one grammar and one set of laws serve both
-- kinds.
pub record Machine (T : Type 0) : Type 1 where
  pub number : T → ℤ
  pub octets : T → List ℕ
  pub Holds : ℤ → Type 0
  pub refuses : List ℕ → Error → Type 0

-- the machine integers of so many octets, without a sign and with one
abbrev pub unsigned_machine : ℕ → Machine ℕ
unsigned_machine size =
    record { number = pos; octets = unsigned_octets; Holds = IsUnsigned size; refuses = UnsignedRefuses size }

-- machine integers with a sign, of so many octets
abbrev pub signed_machine : ℕ → Machine ℤ
signed_machine size =
    record { number = λ n. n; octets = signed_octets; Holds = IsSigned size; refuses = SignedRefuses size }

-- what converting contents octets may answer: the value that is their integer in two's complement,
-- or a refusal where the type does not hold that
abbrev pub MachineGives : {T : Type 0} → Machine T → List ℕ → Result T Error → Type 0
MachineGives M content (Ok x) = (M.number x ≡ twos_complement_value content) × M.Holds (M.number x)
MachineGives M content (Err e) = M.refuses content e

-- A value is that of one integer, whose strict contents octets are its own.
-- Octets that are refused say an integer that the type does not hold.
pub record IsLawfulMachine {T : Type 0} (M : Machine T) : Type 0 where
  pub one : (x y : T) → M.number x ≡ M.number y → x ≡ y
  pub content : (x : T) → IsIntegerContent (M.number x) (M.octets x)
  pub refused : (c : List ℕ) (e : Error) → IsOctets c → M.refuses c e → M.Holds (twos_complement_value c) → ⊥
  pub asks_no_memory : (c : List ℕ) → M.refuses c OutOfMemory → ⊥

-- octets that can be converted to this value alone
abbrev pub GivesBack : {T : Type 0} → Machine T → T → List ℕ → Type 0
GivesBack {T} M x content = (answer : Result T Error) → MachineGives M content answer → answer ≡ Ok x

-- how a machine integer is read
abbrev pub machine_reading : {T : Type 0} → Machine T → LeafReading T
machine_reading M = record {
  element = integer_element M.number M.Holds;
  gives = OfParts (IntegerGives M.number M.Holds M.refuses);
  check = IntegerCheckGives;
}
