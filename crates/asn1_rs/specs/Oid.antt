-- Object identifiers, absolute and relative (X.690 8.19, 8.20).
pub mod Arcs
pub mod Making
pub mod Text
use Rattle.std.specs.Prelude.{◌≡◌, ◌≢◌, ℕ, Bool, true, false, List, [], length, Result, Ok, Err}
use Rattle.std.specs.Cow.{cow_slice_items, IsBorrowedSlice}
use Rattle.std.specs.declared.alloc.Global.{Global}
use Rattle.std.specs.declared.borrow.CowSlice.{CowSlice}
use Rattle.x690.specs.Arcs.{AreShortest}
use Rattle.x690.specs.Elements.{Parts}
use Rattle.x690.specs.Octets.{IsOctets}
use Rattle.x690.specs.Strict.{header_octets}
use Rattle.asn1_headers.specs.declared.error.Error.{Error}
use Rattle.asn1_rs.specs.declared.asn1_types.any.Any.{Any}
use Rattle.asn1_rs.specs.declared.asn1_types.oid.Oid.{Oid}
use Rattle.asn1_rs.specs.Any.{parts_of}
use Rattle.asn1_rs.specs.Checks.{CheckGives, ◌before◌, has_number, is_counted, is_primitive}
use Rattle.asn1_rs.specs.Grammar.Form.{UniversalForm}
use Rattle.asn1_rs.specs.Kinds.{ElementGrammar}
use Rattle.asn1_rs.specs.ToDer.{Writing, plain_writing}

-- the numbers of the tags of object identifiers and of relative ones
abbrev pub oid_number : ℕ
oid_number = 6

-- the tag number of relative object identifiers
abbrev pub relative_number : ℕ
relative_number = 13

-- the number of the tag that one is written under
abbrev pub written_number : Bool → ℕ
written_number true = relative_number
written_number false = oid_number

-- the value of an identifier: its contents octets, and whether it is relative
pub record OidValue : Type 0 where
  pub relative : Bool
  pub octets : List ℕ
  deriving IsSet as OidValue-set

-- the contents octets, as they are held
abbrev pub oid_cow : Oid → CowSlice ℕ Global
oid_cow x = x.octets

-- the contents octets
abbrev pub oid_octets : Oid → List ℕ
oid_octets x = cow_slice_items x.octets

-- whether the object identifier is relative
abbrev pub is_relative : Oid → Bool
is_relative x = x.relative

-- the value of an object identifier: whether it is relative, and its contents octets
abbrev pub oid_value : Oid → OidValue
oid_value x = record { relative = x.relative; octets = cow_slice_items x.octets }

-- the absolute identifier of these contents octets
abbrev pub absolute : List ℕ → OidValue
absolute content = record { relative = false; octets = content }

-- Its contents octets are the shortest of their arcs, and it is absolute and has some (8.19.2).
pub record IsStrictOid (v : OidValue) : Type 0 where
  pub absolute : v.relative ≡ false
  pub octets : IsOctets v.octets
  pub some : v.octets ≢ []
  pub shortest : AreShortest v.octets

-- by DER the element is primitive, and its length is definite (8.19.1)
abbrev pub oid_constraints : CheckGives
oid_constraints = is_primitive before is_counted

-- Every element says the absolute identifier of its contents octets: its tag is not looked at.
abbrev pub oid_element : ElementGrammar Oid
oid_element = record {
  Value = OidValue;
  value = oid_value;
  IsValue = λ v. IsOctets v.octets;
  IsDer = IsStrictOid;
  Body = λ p v. v ≡ absolute p.content;
  Check = λ p. oid_constraints p (Ok tt);
  Form = UniversalForm false oid_number (λ v c. IsStrictOid v × (v ≡ absolute c));
  allocates = false;
}

-- what taking the contents octets of an element as an identifier may answer, absolute or relative, behind a check: it
-- borrows them
abbrev pub LendsOid : Bool → CheckGives → Parts → Result Oid Error → Type 0
LendsOid relative check p (Ok x) =
    check p (Ok tt) × (oid_value x ≡ record { relative = relative; octets = p.content }) × IsBorrowedSlice (oid_cow x)
LendsOid relative check p (Err e) = check p (Err e)

-- so of the conversion, which refuses nothing
abbrev pub OidGives : Any → Result Oid Error → Type 0
OidGives any (Ok x) = (oid_value x ≡ absolute (parts_of any).content) × IsBorrowedSlice (oid_cow x)
OidGives any (Err e) = ⊥

-- the checks of the readers of relative identifiers, in their orders
abbrev pub ber_relative_check : CheckGives
ber_relative_check = is_primitive before has_number relative_number

-- the checks of a relative object identifier by DER
abbrev pub der_relative_check : CheckGives
der_relative_check = has_number relative_number before oid_constraints

-- the strict header of one, by its kind
abbrev pub oid_header : Oid → List ℕ
oid_header x = header_octets 0 false (written_number x.relative) (length (cow_slice_items x.octets))

-- An identifier is written with its contents octets as they stand, behind the header of its kind.
abbrev pub oid_writing : Writing Oid
oid_writing = plain_writing oid_header oid_octets (λ x. false)
