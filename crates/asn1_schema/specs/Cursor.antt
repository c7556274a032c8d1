-- Where the values of a tape end.
use Rattle.std.specs.Prelude.{ℕ, ℤ, zero, suc, ◌+◌, ◌≡◌, Bool, List, [], ◌∷◌, ◌++◌, map, Option, Some, None}
use Rattle.x690.specs.Signed.{IsSigned}
use Rattle.asn1_schema.specs.declared.tape.Item.{Item}
use Rattle.asn1_schema.specs.Values.{bits, joined}
use Rattle.asn1_schema.specs.Grammar.{IsBitContent}
use Rattle.asn1_schema.specs.Rules.{strict}
use Rattle.asn1_schema.specs.Writing.{before}
use Rattle.asn1_schema.specs.Tape.{Mark, leaf_mark, begin_mark, end_mark, absent_mark, arm_mark, arm_end_mark}
use Rattle.asn1_schema.specs.Tape.{pieces_mark, pieces_end_mark, KeptRow, kept_none, kept_absent, kept_more, tape_of}

-- how many marks the value at the front has
abbrev pub marks_of_first : List Mark → ℕ
marks_of_first [] = 0
marks_of_first (arm_mark k ∷ ms) = 2 + marks_of_first ms
marks_of_first (begin_mark n ∷ ms) = 2 + n
marks_of_first (pieces_mark n ∷ ms) = 2 + n
marks_of_first (leaf_mark l ∷ ms) = 1
marks_of_first (end_mark n ∷ ms) = 1
marks_of_first (absent_mark ∷ ms) = 1
marks_of_first (arm_end_mark k ∷ ms) = 1
marks_of_first (pieces_end_mark n ∷ ms) = 1

-- the marks of the field at a place: its value, or that it is left out; and none behind the last one
abbrev pub field_marks : KeptRow → ℕ → List Mark
field_marks kept_none place = []
field_marks (kept_absent ks) zero = absent_mark ∷ []
field_marks (kept_absent ks) (suc place) = field_marks ks place
field_marks (kept_more k ks) zero = tape_of k
field_marks (kept_more k ks) (suc place) = field_marks ks place

-- the number, or none where 16 octets do not hold it
abbrev pub IsNumber : ℤ → Option ℤ → Type 0
IsNumber n (Some m) = m ≡ n
IsNumber n None = IsSigned 16 n → ⊥

-- Between two places stand pieces that join to these bits.
pub record HoldPieces (tape : List Item) (start end : ℕ) (bs : List Bool) : Type 0 where
  pub pieces : List (List Bool)
  pub joins : joined pieces ≡ bs
  pub stand : before tape end ≡ before tape start ++ map (λ y. leaf_mark (bits y)) pieces

-- Octets are put behind others that have these bits, but for so many unused ones, which are zeros (X.690 8.6.2, 11.2.1).
abbrev pub AppendsBits : List Bool → List ℕ → List ℕ → Option ℕ → Type 0
AppendsBits bs old new None = ⊥
AppendsBits bs old new (Some unused) =
    (o : List ℕ) × (new ≡ old ++ o) × IsBitContent strict (unused ∷ o) bs
