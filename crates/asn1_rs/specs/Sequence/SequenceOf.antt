-- Sequences of items, as a type of the library's own (X.690 8.10).
use Rattle.std.specs.Prelude.{◌≡◌, List}
use Rattle.std.specs.Borrow.{Lends, Fml, RattleType, MutBor, Array}
use Rattle.std.specs.Vec.{with_items}
use Rattle.asn1_rs.specs.declared.asn1_types.sequence.sequence_of.SequenceOf.{SequenceOf}
use Rattle.asn1_rs.specs.contracts.asn1_types.sequence.sequence_of.SequenceOf.{the_row}

-- its items
abbrev pub sequence_items : {T : Type 0} → SequenceOf T → List T
sequence_items s = s.items.items

-- it is made of these items
abbrev pub IsSequenceOf : {T : Type 0} → List T → SequenceOf T → Type 0
IsSequenceOf items s = sequence_items s ≡ items

-- once the borrow r ends, the items are those that r shows last
module _ (T : RattleType) (s : MutBor (SequenceOf T.Denot)) where
  -- the items of a sequence are lent, and what comes back takes their place
  abbrev pub lends_sequence_items : MutBor (List T.Denot) → Fml
  lends_sequence_items r = Lends (the_row T) (Array T 0) s r (λ ws. record { items = with_items s.now.items ws })
