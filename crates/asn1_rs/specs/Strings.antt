-- Strings of characters whose contents octets are their text in UTF-8 (X.690 8.23, X.680 41).
use Rattle.std.specs.Prelude.{◌≡◌, ℕ, List, Result, IfOk, IsUtf8}
use Rattle.std.specs.Cow.{cow_str_bytes, IsBorrowedStr}
use Rattle.std.specs.declared.alloc.Global.{Global}
use Rattle.std.specs.declared.borrow.CowStr.{CowStr}
use Rattle.asn1_headers.specs.declared.error.Error.{Error}
use Rattle.asn1_headers.specs.declared.error.Error.TheVariants.{StringInvalidCharset}
use Rattle.asn1_rs.specs.declared.asn1_types.any.Any.{Any}
use Rattle.asn1_rs.specs.declared.asn1_types.strings.InPlace.{InPlace}
use Rattle.asn1_rs.specs.declared.asn1_types.strings.RestrictedString.{RestrictedString}
use Rattle.asn1_rs.specs.Any.{parts_of}
use Rattle.asn1_rs.specs.Checks.{content_check, is_primitive}
use Rattle.asn1_rs.specs.Leaf.{Leaf, LeafGives, leaf_element}
use Rattle.asn1_rs.specs.LeafReading.{LeafReading}

-- An element with the tag number whose value is the UTF-8 of a text, which is its contents octets. The type has the
-- text, though items may hold others. It is primitive or constructed (8.23.1); by DER it is primitive (10.2). What is
-- written for a text that the type does not have is no strict encoding.
abbrev pub text_leaf : {S : Type 0} → ℕ → (List ℕ → Type 0) → (S → List ℕ) → Leaf S
text_leaf number IsText text = record {
  number = number;
  Value = List ℕ;
  value = text;
  IsValue = IsUtf8;
  IsDer = IsText;
  checks = content_check IsText StringInvalidCharset;
  Says = λ content v. content ≡ v;
  constraints = is_primitive;
  octets = λ v. v;
}

-- the text of a string, as it is held
abbrev pub content_text : {K F : Type 0} → RestrictedString K F → CowStr Global
content_text x = x.text

-- the text of a string, in UTF-8
abbrev pub string_text : {K F : Type 0} → RestrictedString K F → List ℕ
string_text x = cow_str_bytes x.text

-- Strings of a type with this tag number and these texts.
abbrev pub string_leaf : {K : Type 0} → ℕ → (List ℕ → Type 0) → Leaf (RestrictedString K InPlace)
string_leaf number IsText = text_leaf number IsText string_text

-- What the conversion of an element may answer. It is its contents octets as a text, which is borrowed, or the refusal
-- of the first check that is broken.
abbrev pub StringGives : {K : Type 0} → ℕ → (List ℕ → Type 0) → Any → Result (RestrictedString K InPlace) Error → Type 0
StringGives number IsText any answer =
    LeafGives (string_leaf number IsText) (parts_of any) answer × IfOk answer (λ x. IsBorrowedStr (content_text x))

-- how such strings are read
abbrev pub string_reading : {K : Type 0} → ℕ → (List ℕ → Type 0) → LeafReading (RestrictedString K InPlace)
string_reading {K} number IsText = record {
  element = leaf_element (string_leaf {K = K} number IsText);
  gives = StringGives number IsText;
  check = is_primitive;
}
