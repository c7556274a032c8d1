-- Integers of any size, by their contents octets (X.690 8.3).
use Rattle.std.specs.Prelude.{◌≡◌, ℕ, ℤ, List, Result, Ok, Err}
use Rattle.std.specs.Cow.{cow_slice_items, IsBorrowedSlice}
use Rattle.std.specs.declared.alloc.Global.{Global}
use Rattle.std.specs.declared.borrow.CowSlice.{CowSlice}
use Rattle.x690.specs.Octets.{IsOctets}
use Rattle.x690.specs.Integers.{IsShortestInteger, IsIntegerContent}
use Rattle.asn1_rs.specs.declared.asn1_types.integer.octets.Integer.{Integer}
use Rattle.asn1_headers.specs.declared.error.Error.{Error}
use Rattle.asn1_headers.specs.declared.error.Error.TheVariants.{OutOfMemory}
use Rattle.asn1_rs.specs.Checks.{nothing}
use Rattle.asn1_rs.specs.Integer.{integer_number, IntegerCheckGives}
use Rattle.asn1_rs.specs.Leaf.{Leaf}

-- the contents octets, as they are held
abbrev pub content_slice : Integer → CowSlice ℕ Global
content_slice x = x.octets

-- the contents octets, borrowed or owned
abbrev pub integer_octets : Integer → List ℕ
integer_octets x = cow_slice_items x.octets

-- it borrows them
abbrev pub BorrowsOctets : Integer → Type 0
BorrowsOctets x = IsBorrowedSlice x.octets

-- octets of which there is one, and none that could be left out (X.690 8.3.1, 8.3.2)
abbrev pub AreStrict : List ℕ → Type 0
AreStrict octets = IsOctets octets × IsShortestInteger octets

-- Any octets as they stand, of an element that is primitive or constructed.
-- The value is the octets, not their number: they are what is read and written.
abbrev pub any_integer_leaf : Leaf Integer
any_integer_leaf = record {
  number = integer_number;
  Value = List ℕ;
  value = integer_octets;
  IsValue = IsOctets;
  IsDer = AreStrict;
  checks = nothing;
  Says = λ content octets. octets ≡ content;
  constraints = IntegerCheckGives;
  octets = λ octets. octets;
}

-- one that holds the strict contents octets of the number, or that memory was refused
abbrev pub HasContentOr : ℤ → Result Integer Error → Type 0
HasContentOr n (Ok x) = IsIntegerContent n (integer_octets x)
HasContentOr n (Err e) = e ≡ OutOfMemory
