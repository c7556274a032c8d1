-- Values that borrow the octets that they are read from.
use Rattle.std.specs.Prelude.{◌≡◌, ℕ, List, Ok, Err, IsUtf8}
use Rattle.asn1_headers.specs.declared.error.Err.{Err as Refusal}
use Rattle.asn1_headers.specs.declared.error.Error.{Error}
use Rattle.asn1_rs.specs.declared.asn1_types.any.Any.{Any}
use Rattle.asn1_rs.specs.Any.{parts_of, BerElementGives}
use Rattle.asn1_rs.specs.Any.Text.{utf8_checks}
use Rattle.asn1_rs.specs.FieldReader.{BecomesError}
use Rattle.asn1_rs.specs.Any.Value.{ElementValue, ElementBody}
use Rattle.asn1_headers.specs.Answers.{HasPrefix}
use Rattle.asn1_rs.specs.Grammar.{BerWord, DerWord}
use Rattle.asn1_rs.specs.Leaf.{Leaf, LeafBody}
use Rattle.asn1_rs.specs.OctetString.{octet_string_leaf}
use Rattle.asn1_rs.specs.Strings.{string_leaf}
use Rattle.asn1_rs.specs.declared.asn1_types.strings.InPlace.{InPlace}
use Rattle.asn1_rs.specs.declared.asn1_types.strings.RestrictedString.{RestrictedString}
use Rattle.asn1_rs.specs.declared.asn1_types.strings.kinds.Utf8Kind.{Utf8Kind}

-- the words of a type by DER, with their values
abbrev pub LeafByDer : {S : Type 0} (L : Leaf S) → List ℕ → L.Value → Type 0
LeafByDer L = DerWord (λ p. L.constraints p (Ok tt)) (LeafBody L)

-- an octet string, by DER
abbrev pub StringByDer : List ℕ → List ℕ → Type 0
StringByDer = LeafByDer octet_string_leaf

-- the strings of the tag number of UTF8String
abbrev pub utf8_string_leaf : Leaf (RestrictedString Utf8Kind InPlace)
utf8_string_leaf = string_leaf 12 IsUtf8

-- an element by BER begins the octets, and these are its contents octets
pub record BeginsWithContents (octets content : List ℕ) : Type 0 where
  pub value : ElementValue
  pub rest : List ℕ
  pub front : HasPrefix (BerWord ElementBody) octets value rest
  pub contents : value.content ≡ content

-- no element by BER begins the octets, and the refusal of their first fault became this error
abbrev pub RefusesElement : List ℕ → Error → Type 0
RefusesElement octets e = (r : Refusal Error) × BerElementGives octets (Err r) × BecomesError r e

-- an element by BER begins the octets, and this is the first check of a text that it breaks
abbrev pub HasNoText : List ℕ → Error → Type 0
HasNoText octets e = (any : Any) × (rest : List ℕ) × BerElementGives octets (Ok (rest, any)) ×
    utf8_checks (parts_of any) (Err e)
