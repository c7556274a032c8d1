-- Strings whose pieces are joined. Their value is the octets that they say.
pub mod Laws
pub mod Lawful
pub mod Pieces
use Rattle.std.specs.Prelude.{◌≡◌, ◌⊎◌, false, true, ℕ, List, Result, Ok, Err}
use Rattle.std.specs.Cow.{cow_slice_items, IsBorrowedSlice}
use Rattle.std.specs.declared.alloc.Global.{Global}
use Rattle.std.specs.declared.borrow.CowSlice.{CowSlice}
use Rattle.x690.specs.Octets.{IsOctets}
use Rattle.x690.specs.Elements.{Parts}
use Rattle.asn1_headers.specs.Ber.{max_depth}
use Rattle.asn1_headers.specs.Tag.{is_container_number}
use Rattle.asn1_headers.specs.declared.error.Error.{Error}
use Rattle.asn1_headers.specs.declared.error.Error.TheVariants.{StringInvalidCharset}
use Rattle.asn1_rs.specs.declared.asn1_types.any.Any.{Any}
use Rattle.asn1_rs.specs.Any.{parts_of}
use Rattle.asn1_rs.specs.Checks.{has_number, is_primitive}
use Rattle.asn1_rs.specs.Grammar.Form.{UniversalForm}
use Rattle.asn1_rs.specs.Kinds.{ElementGrammar}
use Rattle.asn1_rs.specs.LeafReading.{LeafReading}
use Rattle.asn1_rs_profiles.specs.Joined.Pieces.{SaysOctets, TakesOctets}
use Rattle.asn1_rs_profiles.specs.declared.joined.Joined.{Joined}

-- the octets of a string, as they are held
abbrev pub held_in : {K : Type 0} → Joined K → CowSlice ℕ Global
held_in x = x.octets

-- the octets of a string
abbrev pub octets_of_joined : {K : Type 0} → Joined K → List ℕ
octets_of_joined x = cow_slice_items x.octets

-- An element with the tag number, primitive or in pieces, that says octets which the type has.
abbrev pub JoinedBody : ℕ → (List ℕ → Type 0) → Parts → List ℕ → Type 0
JoinedBody number IsText p v = (p.id.number ≡ number) × SaysOctets max_depth p v × IsText v

-- such octets, which are the strict contents octets of themselves
abbrev pub IsStrictContent : (List ℕ → Type 0) → List ℕ → List ℕ → Type 0
IsStrictContent IsText v c = (IsOctets v × IsText v) × (c ≡ v)

-- Such strings as elements. By DER they are primitive (10.2). Those in pieces are copied.
abbrev pub joined_element : {K : Type 0} → ℕ → (List ℕ → Type 0) → ElementGrammar (Joined K)
joined_element number IsText = record {
  Value = List ℕ;
  value = octets_of_joined;
  IsValue = IsOctets;
  IsDer = λ v. IsOctets v × IsText v;
  Body = JoinedBody number IsText;
  Check = λ p. is_primitive p (Ok tt);
  Form = UniversalForm (is_container_number number) number (IsStrictContent IsText);
  allocates = true;
}

-- why an element is refused that has the tag number: its pieces, or want of memory for them, or octets that the type
-- does not have
abbrev pub JoinedRefuses : (List ℕ → Type 0) → Parts → Error → Type 0
JoinedRefuses IsText p e = TakesOctets p (Err e) ⊎
    (((v : List ℕ) × SaysOctets max_depth p v × (IsText v → ⊥)) × (e ≡ StringInvalidCharset))

-- What the conversion of an element may answer: the octets that it says, which are lent where it is primitive; or the
-- first refusal in this order: that of its tag number, of its pieces, of its octets.
abbrev pub JoinedGives : {K : Type 0} → ℕ → (List ℕ → Type 0) → Any → Result (Joined K) Error → Type 0
JoinedGives number IsText any (Ok x) = JoinedBody number IsText (parts_of any) (octets_of_joined x) ×
    ((parts_of any).id.constructed ≡ false → IsBorrowedSlice (held_in x))
JoinedGives number IsText any (Err e) = has_number number (parts_of any) (Err e) ⊎
    (((parts_of any).id.number ≡ number) × JoinedRefuses IsText (parts_of any) e)

-- how such strings are read
abbrev pub joined_reading : {K : Type 0} → ℕ → (List ℕ → Type 0) → LeafReading (Joined K)
joined_reading {K} number IsText = record {
  element = joined_element {K = K} number IsText;
  gives = JoinedGives number IsText;
  check = is_primitive;
}
