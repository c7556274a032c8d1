-- One of the numbers that a type names (X.690 8.4).
use Rattle.std.specs.Prelude.{◌≡◌, ◌<◌, ◌^◌, ℕ, List}
use Rattle.x690.specs.Digits.{base_256_value}
use Rattle.x690.specs.Integers.{unsigned_octets}
use Rattle.asn1_rs.specs.declared.asn1_types.enumerated.Enumerated.{Enumerated}
use Rattle.asn1_headers.specs.declared.error.Error.TheVariants.{IntegerTooLarge}
use Rattle.asn1_rs.specs.Checks.{◌before◌, is_primitive, is_counted, content_check}
use Rattle.asn1_rs.specs.Leaf.{Leaf}

-- the number of the tag of enumerated values
abbrev pub enumerated_number : ℕ
enumerated_number = 10

-- the natural numbers of four octets
abbrev pub IsFourOctetWord : ℕ → Type 0
IsFourOctetWord n = n < 256 ^ 4

-- the number whose digits in base 256 the octets are is one of these
abbrev pub SaysWord : List ℕ → Type 0
SaysWord content = IsFourOctetWord (base_256_value content)

-- A primitive element, whose contents octets are the digits of the number in base 256. No digits say 0, zeros in front
-- say nothing, and there is no sign. The constraints ask for a definite length alone. The number is written as an
-- integer (X.690 8.4).
abbrev pub enumerated_leaf : Leaf Enumerated
enumerated_leaf = record {
  number = enumerated_number;
  Value = ℕ;
  value = λ x. x.0;
  IsValue = IsFourOctetWord;
  IsDer = IsFourOctetWord;
  checks = is_primitive before content_check SaysWord IntegerTooLarge;
  Says = λ content n. n ≡ base_256_value content;
  constraints = is_counted;
  octets = unsigned_octets;
}
