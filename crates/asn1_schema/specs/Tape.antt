-- How values stand on a tape.
use Rattle.std.specs.Prelude.{ℕ, suc, ◌*◌, ◌-◌, Bool, List, [], ◌∷◌, ◌++◌, length, map, take}
use Rattle.x690.specs.Digits.{twos_complement_value}
use Rattle.asn1_schema.specs.declared.tape.Item.{Item}
use Rattle.asn1_schema.specs.declared.tape.Item.TheVariants as items
use Rattle.asn1_schema.specs.Values.{LeafValue, boolean, null, integer, enumerated, bits, octets, identifier, text}
use Rattle.asn1_schema.specs.Values.{time, any}
use Rattle.asn1_schema.specs.Values.{Value, Values, leaf, row, chosen, none, absent, more, joined}
use Rattle.asn1_schema.specs.declared.schema.TextKind.{TextKind}
use Rattle.asn1_schema.specs.declared.schema.TimeKind.{TimeKind}
use Rattle.asn1_schema.specs.Grammar.{bits_in}

-- strings of octets: octets themselves, characters, and times
pub data Sort : Type 0 where
  of_octets : Sort
  of_text : TextKind → Sort
  of_time : TimeKind → Sort

abbrev pub string : Sort → List ℕ → LeafValue
string of_octets o = octets o
string (of_text kind) o = text kind o
string (of_time kind) o = time kind o

-- A value with the pieces that its strings came in, a first one and others: a tape keeps these.
mutual
  pub data Kept : Type 0 where
    kept_leaf : LeafValue → Kept
    kept_string : Sort → List ℕ → List (List ℕ) → Kept
    kept_bits : List Bool → List (List Bool) → Kept
    kept_row : KeptRow → Kept
    kept_chosen : ℕ → Kept → Kept

  pub data KeptRow : Type 0 where
    kept_none : KeptRow
    kept_absent : KeptRow → KeptRow
    kept_more : Kept → KeptRow → KeptRow

-- the value: its strings are joined (X.690 8.6.4, 8.7.3)
abbrev mutual
  pub value_of : Kept → Value
  value_of (kept_leaf l) = leaf l
  value_of (kept_string s o os) = leaf (string s (joined (o ∷ os)))
  value_of (kept_bits b bs) = leaf (bits (joined (b ∷ bs)))
  value_of (kept_row ks) = row (values_of ks)
  value_of (kept_chosen k v) = chosen k (value_of v)

  pub values_of : KeptRow → Values
  values_of kept_none = none
  values_of (kept_absent ks) = absent (values_of ks)
  values_of (kept_more k ks) = more (value_of k) (values_of ks)

-- what stands on a tape, without where it lies in memory
pub data Mark : Type 0 where
  leaf_mark : LeafValue → Mark
  begin_mark : ℕ → Mark
  end_mark : ℕ → Mark
  absent_mark : Mark
  arm_mark : ℕ → Mark
  arm_end_mark : ℕ → Mark
  pieces_mark : ℕ → Mark
  pieces_end_mark : ℕ → Mark

abbrev pub mark : Item → Mark
mark (items.Boolean b) = leaf_mark (boolean b)
mark items.Null = leaf_mark null
mark (items.Integer r) = leaf_mark (integer (twos_complement_value r.now))
mark (items.Enumerated r) = leaf_mark (enumerated (twos_complement_value r.now))
mark (items.Bits unused r) = leaf_mark (bits (take (8 * length r.now - unused) (bits_in r.now)))
mark (items.Octets r) = leaf_mark (octets r.now)
mark (items.Identifier relative r) = leaf_mark (identifier relative r.now)
mark (items.Text kind r) = leaf_mark (text kind r.now)
mark (items.Time kind r) = leaf_mark (time kind r.now)
mark (items.Any class constructed number r) =
    leaf_mark (any (record { class = class; constructed = constructed; number = number }) r.now)
mark (items.Begin n) = begin_mark n
mark (items.End n) = end_mark n
mark items.Absent = absent_mark
mark (items.Arm k) = arm_mark k
mark (items.ArmEnd k) = arm_end_mark k
mark (items.Pieces n) = pieces_mark n
mark (items.PiecesEnd n) = pieces_end_mark n

abbrev pub marks : List Item → List Mark
marks = map mark

-- Whatever holds other marks stands on both sides of them: at the front for who reads, and at the back for who writes.
abbrev pub between : Mark → List Mark → Mark → List Mark
between first inner last = first ∷ (inner ++ last ∷ [])

-- pieces of a string
abbrev pub pieces : {A : Type 0} → (A → LeafValue) → A → List A → List Mark
pieces make x xs =
    between (pieces_mark (suc (length xs))) (map (λ y. leaf_mark (make y)) (x ∷ xs)) (pieces_end_mark (suc (length xs)))

-- the tape of a value; rows say on both sides how many marks they hold, so that they may be skipped
abbrev mutual
  pub tape_of : Kept → List Mark
  tape_of (kept_leaf l) = leaf_mark l ∷ []
  tape_of (kept_string s o os) = pieces (string s) o os
  tape_of (kept_bits b bs) = pieces bits b bs
  tape_of (kept_row ks) = between (begin_mark (length (tapes_of ks))) (tapes_of ks) (end_mark (length (tapes_of ks)))
  tape_of (kept_chosen k v) = between (arm_mark k) (tape_of v) (arm_end_mark k)

  pub tapes_of : KeptRow → List Mark
  tapes_of kept_none = []
  tapes_of (kept_absent ks) = absent_mark ∷ tapes_of ks
  tapes_of (kept_more k ks) = tape_of k ++ tapes_of ks
