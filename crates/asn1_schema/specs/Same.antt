-- What stands on a tape, but for how its strings are cut.
use Rattle.std.specs.Prelude.{ℕ, zero, suc, Bool, List, [], ◌∷◌, ◌++◌, take, drop}
use Rattle.asn1_schema.specs.declared.same.SignKind.{SignKind}
use Rattle.asn1_schema.specs.declared.same.SignKind.TheVariants as signs
use Rattle.asn1_schema.specs.declared.same.LeafKind.{LeafKind}
use Rattle.asn1_schema.specs.declared.same.LeafKind.TheVariants as leaves
use Rattle.asn1_schema.specs.declared.same.Sign.{Sign as Told}
use Rattle.asn1_schema.specs.declared.bitwise.Bitwise.{Bitwise}
use Rattle.asn1_schema.specs.Grammar.{bits_in}
use Rattle.asn1_schema.specs.Values.{LeafValue, boolean, null, integer, enumerated, bits, octets, identifier, text}
use Rattle.asn1_schema.specs.Values.{time, any}
use Rattle.asn1_schema.specs.Values.{Value, Values, leaf, row, chosen, none, absent, more}
use Rattle.asn1_schema.specs.Tape.{Mark, marks, leaf_mark, begin_mark, end_mark, absent_mark, arm_mark, arm_end_mark, pieces_mark, pieces_end_mark}
use Rattle.asn1_schema.specs.Joined.{all_octets}

-- the bits of a piece, and of pieces
abbrev pub bits_of : Mark → List Bool
bits_of (leaf_mark (bits bs)) = bs
bits_of _ = []

abbrev pub all_bits_of : List Mark → List Bool
all_bits_of [] = []
all_bits_of (m ∷ ms) = bits_of m ++ all_bits_of ms

-- what is left of bits
abbrev pub bits_left : Bitwise → List Bool
bits_left b = take b.count (drop b.skip (bits_in b.octets.now)) ++ all_bits_of (marks b.others.now)

-- what pieces join to, by the first one
abbrev pub joined_leaf : List Mark → LeafValue
joined_leaf (leaf_mark (octets o) ∷ ms) = octets (o ++ all_octets ms)
joined_leaf (leaf_mark (text kind o) ∷ ms) = text kind (o ++ all_octets ms)
joined_leaf (leaf_mark (time kind o) ∷ ms) = time kind (o ++ all_octets ms)
joined_leaf (leaf_mark (bits bs) ∷ ms) = bits (bs ++ all_bits_of ms)
joined_leaf (leaf_mark l ∷ ms) = l
joined_leaf _ = null

-- the kind of a leaf
abbrev pub kind_of : LeafValue → LeafKind
kind_of (boolean b) = leaves.Boolean b
kind_of null = leaves.Null
kind_of (integer n) = leaves.Integer
kind_of (enumerated n) = leaves.Enumerated
kind_of (bits bs) = leaves.Bits
kind_of (octets o) = leaves.Octets
kind_of (identifier relative o) = leaves.Identifier relative
kind_of (text kind o) = leaves.Text kind
kind_of (time kind o) = leaves.Time kind
kind_of (any id o) = leaves.Any id.class id.constructed id.number

-- A leaf, or a bracket, or a field that is left out.
pub data Sign : Type 0 where
  sign : SignKind → LeafValue → Sign

abbrev pub bracket : SignKind → Sign
bracket kind = sign kind null

abbrev pub sign_said : LeafValue → Sign
sign_said l = sign signs.Said l

abbrev pub sign_of : Told → Sign
sign_of x = sign x.kind (joined_leaf (marks x.pieces.now))

-- the signs of marks, of which so many belong to the sign before them
abbrev pub signs_from : ℕ → List Mark → List Sign
signs_from within [] = []
signs_from (suc within) (m ∷ ms) = signs_from within ms
signs_from zero (leaf_mark l ∷ ms) = sign_said l ∷ signs_from zero ms
signs_from zero (begin_mark n ∷ ms) = bracket signs.Open ∷ signs_from zero ms
signs_from zero (end_mark n ∷ ms) = bracket signs.Close ∷ signs_from zero ms
signs_from zero (absent_mark ∷ ms) = bracket signs.Gone ∷ signs_from zero ms
signs_from zero (arm_mark k ∷ ms) = bracket (signs.Arm k) ∷ signs_from zero ms
signs_from zero (arm_end_mark k ∷ ms) = bracket (signs.ArmEnd k) ∷ signs_from zero ms
signs_from zero (pieces_mark n ∷ ms) = sign_said (joined_leaf (take n ms)) ∷ signs_from (suc n) ms
signs_from zero (pieces_end_mark n ∷ ms) = bracket signs.Close ∷ signs_from zero ms

-- the signs of a value
abbrev mutual
  pub signs_of : Value → List Sign
  signs_of (leaf l) = sign_said l ∷ []
  signs_of (row vs) = bracket signs.Open ∷ (signs_of_row vs ++ bracket signs.Close ∷ [])
  signs_of (chosen k v) = bracket (signs.Arm k) ∷ (signs_of v ++ bracket (signs.ArmEnd k) ∷ [])

  pub signs_of_row : Values → List Sign
  signs_of_row none = []
  signs_of_row (absent vs) = bracket signs.Gone ∷ signs_of_row vs
  signs_of_row (more v vs) = signs_of v ++ signs_of_row vs
