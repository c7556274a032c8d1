-- Octet strings (X.690 8.7), and other types whose value is their contents octets.
use Rattle.std.specs.Prelude.{◌≡◌, ℕ, List}
use Rattle.std.specs.Borrow.{Bor}
use Rattle.std.specs.Cow.{cow_slice_items}
use Rattle.std.specs.declared.alloc.Global.{Global}
use Rattle.std.specs.declared.borrow.CowSlice.{CowSlice}
use Rattle.x690.specs.Octets.{IsOctets}
use Rattle.asn1_rs.specs.declared.asn1_types.octet_string.OctetString.{OctetString}
use Rattle.asn1_rs.specs.Checks.{CheckGives, nothing, is_primitive}
use Rattle.asn1_rs.specs.Leaf.{Leaf}

-- An element with the tag number whose value is its contents octets, with these checks and constraints.
abbrev pub contents_leaf : {S : Type 0} → ℕ → (S → List ℕ) → CheckGives → CheckGives → Leaf S
contents_leaf number octets checks constraints = record {
  number = number;
  Value = List ℕ;
  value = octets;
  IsValue = IsOctets;
  IsDer = IsOctets;
  checks = checks;
  Says = λ content v. content ≡ v;
  constraints = constraints;
  octets = λ v. v;
}

-- One that is primitive or constructed (8.7.2). By DER it is primitive (10.2).
abbrev pub octets_leaf : {S : Type 0} → ℕ → (S → List ℕ) → Leaf S
octets_leaf number octets = contents_leaf number octets nothing is_primitive

-- the number of the tag of octet strings
abbrev pub octet_string_number : ℕ
octet_string_number = 4

-- the octets of an octet string, as they are held
abbrev pub cow_of : OctetString → CowSlice ℕ Global
cow_of x = x.octets

-- the octets of an octet string
abbrev pub string_octets : OctetString → List ℕ
string_octets x = cow_slice_items x.octets

-- Octet strings that are owned or borrowed.
abbrev pub octet_string_leaf : Leaf OctetString
octet_string_leaf = octets_leaf octet_string_number string_octets

-- the same of borrowed octets
abbrev pub slice_leaf : Leaf (Bor (List ℕ))
slice_leaf = octets_leaf octet_string_number (λ x. x.now)
