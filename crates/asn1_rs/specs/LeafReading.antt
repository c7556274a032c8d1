-- What a leaf type says of how it is read, once.
use Rattle.std.specs.Prelude.{ℕ, Result}
use Rattle.std.specs.declared.alloc.Global.{Global}
use Rattle.std.specs.declared.borrow.CowSlice.{CowSlice}
use Rattle.asn1_headers.specs.declared.error.Error.{Error}
use Rattle.asn1_rs.specs.declared.asn1_types.any.Any.{Any}
use Rattle.asn1_rs.specs.Checks.{CheckGives}
use Rattle.asn1_rs.specs.Traits.{OfParts}
use Rattle.asn1_rs.specs.Leaf.{Leaf, LeafGives, LeafConverts, LendsContent, copying, leaf_element}
use Rattle.asn1_rs.specs.Kinds.{ElementGrammar, IsLawfulElement, IsExactCheck, IsExactConversion, InnerGives}
use Rattle.asn1_rs.specs.Kinds.{by_inner_element}

-- its elements, and what the conversion and the check may answer
pub record LeafReading (S : Type 0) : Type 1 where
  pub element : ElementGrammar S
  pub gives : Any → Result S Error → Type 0
  pub check : CheckGives

-- The elements are lawful; conversion and check are exact by them.
pub record IsExactReading {S : Type 0} (R : LeafReading S) : Type 0 where
  pub lawful : IsLawfulElement R.element
  pub checked : IsExactCheck R.check R.element.Check
  pub converts : IsExactConversion R.gives R.element

-- how a leaf is read
abbrev pub leaf_reading : {S : Type 0} → Leaf S → LeafReading S
leaf_reading L = record {
  element = leaf_element L;
  gives = OfParts (LeafGives L);
  check = L.constraints;
}

-- and one that holds octets, which it borrows
abbrev pub lent_reading : {S : Type 0} → Leaf S → (S → CowSlice ℕ Global) → LeafReading S
lent_reading L content = record {
  element = leaf_element L;
  gives = LendsContent L content;
  check = L.constraints;
}

-- and one whose reading copies
abbrev pub copying_reading : {S : Type 0} → Leaf S → LeafReading S
copying_reading L = record {
  element = copying (leaf_element L);
  gives = OfParts (LeafConverts L);
  check = L.constraints;
}

-- and a type that holds an item of a leaf, and nothing else
abbrev pub inner_reading : {S T : Type 0} → (T → S) → LeafReading S → LeafReading T
inner_reading held R = record {
  element = by_inner_element held R.element;
  gives = InnerGives held R.gives;
  check = R.check;
}
