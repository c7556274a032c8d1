-- The values of all types.
use Rattle.std.specs.Prelude.{if◌then◌else◌, ℕ, ℤ, pos, Bool, List, [], ◌∷◌, ◌++◌, length, ◌/◌, Option, Some, None, nat_le, ◌&&◌, not, zero, suc}
use Rattle.x690.specs.Identifiers.{Identifier}
use Rattle.asn1_schema.specs.declared.schema.TextKind.{TextKind}
use Rattle.asn1_schema.specs.declared.schema.TextKind.TheVariants as texts
use Rattle.asn1_schema.specs.declared.schema.TimeKind.{TimeKind}

-- a value with no parts
pub data LeafValue : Type 0 where
  boolean : Bool → LeafValue
  null : LeafValue
  integer : ℤ → LeafValue
  enumerated : ℤ → LeafValue
  bits : List Bool → LeafValue
  octets : List ℕ → LeafValue
  identifier : Bool → List ℕ → LeafValue
  text : TextKind → List ℕ → LeafValue
  time : TimeKind → List ℕ → LeafValue
  any : Identifier → List ℕ → LeafValue

-- a value of some type, and the values of fields or of a list
mutual
  pub data Value : Type 0 where
    leaf : LeafValue → Value
    row : Values → Value
    chosen : ℕ → Value → Value

  pub data Values : Type 0 where
    none : Values
    absent : Values → Values
    more : Value → Values → Values

-- lists, one behind another
abbrev pub joined : {A : Type 0} → List (List A) → List A
joined [] = []
joined (x ∷ xs) = x ++ joined xs

-- how many there are
abbrev pub count : Values → ℕ
count none = zero
count (absent vs) = count vs
count (more v vs) = suc (count vs)

-- the octets that begin a character in UTF-8
abbrev pub leads : List ℕ → ℕ
leads [] = zero
leads (o ∷ os) = if nat_le 128 o && not (nat_le 192 o) then leads os else suc (leads os)

-- how many characters octets say (X.680 51.5: the size of a string is in characters)
abbrev pub characters : TextKind → List ℕ → ℕ
characters texts.Utf8 o = leads o
characters texts.Bmp o = length o / 2
characters texts.Universal o = length o / 4
characters _ o = length o

-- what bounds speak of: the number, or the size in bits, octets, characters or members (X.680 51.4, 51.5)
abbrev pub measure : Value → Option ℤ
measure (leaf (integer n)) = Some n
measure (leaf (bits bs)) = Some (pos (length bs))
measure (leaf (octets o)) = Some (pos (length o))
measure (leaf (text kind o)) = Some (pos (characters kind o))
measure (row vs) = Some (pos (count vs))
measure _ = None
