-- Strings of characters whose text is decoded from their contents octets (X.690 8.23.7, 8.23.8; X.680 41).
use Rattle.std.specs.Prelude.{◌≡◌, ℕ, List, encode_utf8_all, chars, IsUtf8}
use Rattle.x690.specs.Characters.{Codes, code_of}
use Rattle.asn1_headers.specs.declared.error.Error.TheVariants.{StringInvalidCharset}
use Rattle.asn1_rs.specs.declared.asn1_types.strings.Coded.{Coded}
use Rattle.asn1_rs.specs.declared.asn1_types.strings.RestrictedString.{RestrictedString}
use Rattle.asn1_rs.specs.Checks.{content_check, is_primitive}
use Rattle.asn1_rs.specs.Leaf.{Leaf}
use Rattle.asn1_rs.specs.Strings.{string_text}

-- the octets are some text's in the code
abbrev pub IsCoded : (List ℕ → List ℕ) → List ℕ → Type 0
IsCoded code octets = (cs : List ℕ) × Codes code octets cs

-- An element with the tag number whose value is a text in UTF-8, and whose contents octets are the text's characters in
-- a code. It is primitive or constructed (8.23.1); by DER it is primitive (10.2).
abbrev pub coded_leaf : {S : Type 0} → ℕ → (List ℕ → List ℕ) → (S → List ℕ) → Leaf S
coded_leaf number code text = record {
  number = number;
  Value = List ℕ;
  value = text;
  IsValue = IsUtf8;
  IsDer = IsUtf8;
  checks = content_check (IsCoded code) StringInvalidCharset;
  Says = λ content v. (cs : List ℕ) × Codes code content cs × (v ≡ encode_utf8_all cs);
  constraints = is_primitive;
  octets = λ v. code (chars v);
}

-- such strings, by the tag number and the octets of a character
abbrev pub coded_string_leaf : {K : Type 0} → ℕ → (ℕ → List ℕ) → Leaf (RestrictedString K Coded)
coded_string_leaf number octets_of = coded_leaf number (code_of octets_of) string_text

-- the contents octets of a string
abbrev pub coded_octets : {K F : Type 0} → (ℕ → List ℕ) → RestrictedString K F → List ℕ
coded_octets octets_of x = code_of octets_of (chars (string_text x))
