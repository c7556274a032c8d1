-- Tapes of values of which no string is in pieces.
use Rattle.std.specs.Prelude.{List}
use Rattle.asn1_schema.specs.Tape.{Mark, Kept, KeptRow, kept_leaf, kept_row, kept_chosen, kept_none, kept_absent, kept_more, tape_of}
use Rattle.asn1_schema.specs.Values.{Value, Values, leaf, row, chosen, none, absent, more}

-- a value of which no string is in pieces
abbrev mutual
  pub whole : Value → Kept
  whole (leaf l) = kept_leaf l
  whole (row vs) = kept_row (whole_row vs)
  whole (chosen arm v) = kept_chosen arm (whole v)

  pub whole_row : Values → KeptRow
  whole_row none = kept_none
  whole_row (absent vs) = kept_absent (whole_row vs)
  whole_row (more v vs) = kept_more (whole v) (whole_row vs)

-- its tape
abbrev pub tape_of_value : Value → List Mark
tape_of_value v = tape_of (whole v)
