-- What a type says of itself where it is read as a field: its grammar, and the tag numbers of its elements.
use Rattle.std.specs.Prelude.{◌≡◌, ℕ, true, List, Option}
use Rattle.asn1_rs.specs.Grammar.Item.{ItemGrammar, IsLawfulItem}
use Rattle.asn1_rs.specs.Structs.{FieldGrammar, FormNumbers, item_field, optional_field, among, left_out_among}
use Rattle.asn1_rs.specs.Structs.Data.{LawfulTypeOf}

-- the grammar of a type, with the tag numbers of its elements
pub record NumberedGrammar (S : Type 0) : Type 1 where
  pub numbers : List ℕ
  pub grammar : ItemGrammar S

-- it is lawful, and strict elements have one of the tag numbers
pub record IsLawfulNumbered {S : Type 0} (N : NumberedGrammar S) : Type 0 where
  pub lawful : IsLawfulItem N.grammar
  pub begins : FormNumbers N.grammar.Form N.numbers

-- so it is of an item that is lawful, whose strict parts have one of these numbers
pub lawful_under : {S : Type 0} (numbers : List ℕ) (G : ItemGrammar S) → IsLawfulItem G → FormNumbers G.Form numbers →
    IsLawfulNumbered (record { numbers = numbers; grammar = G })
lawful_under numbers G l begins = record { lawful = l; begins = begins }

-- a required field of the type, and an optional one
abbrev pub required_field : {S : Type 0} → NumberedGrammar S → FieldGrammar S
required_field N = item_field (among N.numbers) N.grammar

abbrev pub left_out_field : {S : Type 0} → NumberedGrammar S → FieldGrammar (Option S)
left_out_field N = optional_field (among N.numbers) (left_out_among N.numbers) N.grammar

-- those of the record of a type, which is lawful where it is sound
abbrev pub numbered_of : {S : Type 0} → LawfulTypeOf S → NumberedGrammar S
numbered_of T = record { numbers = T.numbers; grammar = T.grammar }

pub lawful_numbered : {S : Type 0} (T : LawfulTypeOf S) → T.sound ≡ true → IsLawfulNumbered (numbered_of T)
lawful_numbered T s = record { lawful = T.lawful s; begins = T.begins }

-- the value of an item is one of its grammar's
abbrev pub HasItsValue : {S : Type 0} → ItemGrammar S → S → Type 0
HasItsValue G x = G.IsValue (G.value x)
