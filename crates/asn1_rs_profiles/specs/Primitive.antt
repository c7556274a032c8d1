-- Strings that are primitive, by BER too.
pub mod Laws
use Rattle.std.specs.Prelude.{◌≡◌, ℕ, List}
use Rattle.x690.specs.Octets.{IsOctets}
use Rattle.asn1_headers.specs.declared.error.Error.TheVariants.{StringInvalidCharset}
use Rattle.asn1_rs.specs.Checks.{◌before◌, content_check, is_primitive}
use Rattle.asn1_rs.specs.Leaf.{Leaf}
use Rattle.asn1_rs_profiles.specs.declared.primitive.Primitive.{Primitive}

-- the octets of a string
abbrev pub octets_of_primitive : {K : Type 0} → Primitive K → List ℕ
octets_of_primitive x = x.octets.now

-- Such strings as elements: primitive, by BER too, with contents octets that the type has.
abbrev pub primitive_leaf : {K : Type 0} → ℕ → (List ℕ → Type 0) → Leaf (Primitive K)
primitive_leaf number IsText = record {
  number = number;
  Value = List ℕ;
  value = octets_of_primitive;
  IsValue = IsOctets;
  IsDer = λ v. IsOctets v × IsText v;
  checks = is_primitive before content_check IsText StringInvalidCharset;
  Says = λ content v. content ≡ v;
  constraints = is_primitive;
  octets = λ v. v;
}
