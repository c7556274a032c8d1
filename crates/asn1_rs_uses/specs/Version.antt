-- Versions of certificates.
use Rattle.std.specs.Prelude.{ℕ, ℤ, List}
use Rattle.asn1_rs.specs.Grammar.{DerWord, NoCheck}
use Rattle.asn1_rs.specs.Integer.{IntegerBody, IntegerCheck, IsUnsigned}
use Rattle.asn1_rs.specs.Tagged.Explicit.{ExplicitWhole}

-- a number of one octet by DER, under the context-specific tag 0
abbrev pub VersionByDer : List ℕ → ℤ → Type 0
VersionByDer = DerWord NoCheck (ExplicitWhole 2 0 (DerWord IntegerCheck (IntegerBody (IsUnsigned 1))))
