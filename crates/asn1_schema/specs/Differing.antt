-- Where octets differ from the strict encoding of their value.
use Rattle.std.specs.Prelude.{ℕ, List, ◌≡◌, ◌≢◌, take, slice_get, Option, Some, None}
use Rattle.asn1_schema.specs.declared.schema.Node.{Node}
use Rattle.asn1_schema.specs.declared.tape.Item.{Item}
use Rattle.asn1_schema.specs.Grammar.{Word}
use Rattle.asn1_schema.specs.Rules.{der, strict}
use Rattle.asn1_schema.specs.Tape.{Kept, marks, value_of, tape_of}
use Rattle.asn1_schema.specs.Values.{Value}

-- The same stands in both before the place, and not at it. Or both are the same.
abbrev pub FirstDiffer : List ℕ → List ℕ → Option ℕ → Type 0
FirstDiffer left right None = left ≡ right
FirstDiffer left right (Some n) = (take n left ≡ take n right) × (slice_get left n ≢ slice_get right n)

-- The octets are the strict encoding of no value of the type.
abbrev pub IsNotStrict : List Node → ℕ → ℕ → List ℕ → Type 0
IsNotStrict table depth of octets = (v : Value) → Word strict table depth of octets v → ⊥

-- The octets are a word by DER, the tape is that of its value, and P holds of this value.
pub record IsDerOf (table : List Node) (depth of : ℕ) (octets : List ℕ) (tape : List Item) (P : Value → Type 0) :
    Type 0 where
  pub kept : Kept
  pub word : Word der table depth of octets (value_of kept)
  pub is : marks tape ≡ tape_of kept
  pub holds : P (value_of kept)

-- The value has a strict encoding, which first differs from the octets at the place.
pub record HasOther (table : List Node) (depth of : ℕ) (octets : List ℕ) (n : ℕ) (v : Value) : Type 0 where
  pub other : List ℕ
  pub strict_word : Word strict table depth of other v
  pub differs : FirstDiffer octets other (Some n)

-- the value has no strict encoding
abbrev pub HasNoEncoding : List Node → ℕ → ℕ → Value → Type 0
HasNoEncoding table depth of v = (other : List ℕ) → Word strict table depth of other v → ⊥
