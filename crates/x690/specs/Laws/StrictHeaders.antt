-- Laws of the strict headers (X.690 8.1.2, 8.1.3, 10.1).
use Rattle.std.proofs.Common.{◌≡◌, ℕ, ◌+◌, Bool, ◌++◌, length, refl, length-append}
use Rattle.x690.specs.Identifiers.{Identifier}
use Rattle.x690.specs.Strict.{identifier_octets, length_octets, header_octets}

-- class, constructed bit and tag number as one
abbrev pub identifier_with : ℕ → Bool → ℕ → Identifier
identifier_with class constructed number = record { class = class; constructed = constructed; number = number }

-- A strict header is strict identifier octets, and then strict length octets.
pub header_octets_are : (class : ℕ) (constructed : Bool) (number n : ℕ) → header_octets class constructed number n ≡
    identifier_octets (identifier_with class constructed number) ++ length_octets n
unfolding header_octets
header_octets_are class constructed number n = refl

-- It is as long as both.
pub header_octets_count : (class : ℕ) (constructed : Bool) (number n : ℕ) →
    length (header_octets class constructed number n) ≡
    length (identifier_octets (identifier_with class constructed number)) + length (length_octets n)
unfolding header_octets
header_octets_count class constructed number n =
    length-append (identifier_octets (identifier_with class constructed number)) (length_octets n)
