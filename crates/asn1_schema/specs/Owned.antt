-- Tapes that own their octets.
use Rattle.std.specs.Prelude.{ℕ, List, [], ◌≡◌, ◌++◌, ◌*◌, ◌-◌, length, map, take, drop}
use Rattle.x690.specs.Digits.{twos_complement_value}
use Rattle.asn1_schema.specs.declared.tape.Item.{Item}
use Rattle.asn1_schema.specs.declared.tape.Item.TheVariants as items
use Rattle.asn1_schema.specs.declared.owned.Placed.{Placed}
use Rattle.asn1_schema.specs.declared.owned.OwnedTape.{OwnedTape}
use Rattle.asn1_schema.specs.Values.{integer, enumerated, bits, octets, identifier, text, time, any}
use Rattle.asn1_schema.specs.Grammar.{bits_in}
use Rattle.asn1_schema.specs.Tape.{Mark, mark, leaf_mark}

-- the octets of an item
abbrev pub lent : Item → List ℕ
lent (items.Integer r) = r.now
lent (items.Enumerated r) = r.now
lent (items.Bits unused r) = r.now
lent (items.Octets r) = r.now
lent (items.Identifier relative r) = r.now
lent (items.Text kind r) = r.now
lent (items.Time kind r) = r.now
lent (items.Any class constructed number r) = r.now
lent _ = []

-- what an item is with other octets
abbrev pub item_with_octets : Item → List ℕ → Mark
item_with_octets (items.Integer r) o = leaf_mark (integer (twos_complement_value o))
item_with_octets (items.Enumerated r) o = leaf_mark (enumerated (twos_complement_value o))
item_with_octets (items.Bits unused r) o = leaf_mark (bits (take (8 * length o - unused) (bits_in o)))
item_with_octets (items.Octets r) o = leaf_mark (octets o)
item_with_octets (items.Identifier relative r) o = leaf_mark (identifier relative o)
item_with_octets (items.Text kind r) o = leaf_mark (text kind o)
item_with_octets (items.Time kind r) o = leaf_mark (time kind o)
item_with_octets (items.Any class constructed number r) o =
    leaf_mark (any (record { class = class; constructed = constructed; number = number }) o)
item_with_octets item o = mark item

-- so many octets from a place on
abbrev pub span : List ℕ → ℕ → ℕ → List ℕ
span o start len = take len (drop start o)

abbrev pub placed_mark : List ℕ → Placed → Mark
placed_mark o p = item_with_octets p.shape (span o p.start p.len)

-- what stands on an owned tape, if its octets were more
abbrev pub owned_with : OwnedTape → List ℕ → List Mark
owned_with t more = map (placed_mark (t.octets.items ++ more)) t.items.items

-- what stands on an owned tape
abbrev pub owned_marks : OwnedTape → List Mark
owned_marks t = map (placed_mark t.octets.items) t.items.items

-- Marks were put behind those of a tape, and their octets behind its octets.
pub record Appends (old new : OwnedTape) (ms : List Mark) : Type 0 where
  pub octets : List ℕ
  pub behind : new.octets.items ≡ old.octets.items ++ octets
  pub marks : (more : List ℕ) → owned_with new more ≡ owned_with old (octets ++ more) ++ ms
