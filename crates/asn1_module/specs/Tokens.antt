-- Where tokens stand.
use Rattle.std.specs.Prelude.{ℕ, List, length, ◌++◌, ◌≡◌, slice_get, Some}
use Rattle.std.specs.Borrow.{Bor}
use Rattle.asn1_module.specs.declared.tokens.Token.{Token}

-- the others are the end of the octets
abbrev pub EndsIn : List ℕ → List ℕ → Type 0
EndsIn whole rest = (front : List ℕ) × (whole ≡ front ++ rest)

-- the text has the octets of the token at its place
abbrev pub StandsIn : List ℕ → Token → Type 0
StandsIn text token = (before : List ℕ) × (after : List ℕ) × (text ≡ before ++ (token.octets.now ++ after)) × (length before ≡ token.place.octet)

-- the text of the token has its octets at its place
abbrev pub StandsAmong : List (Bor (List ℕ)) → Token → Type 0
StandsAmong texts token = (text : Bor (List ℕ)) × (slice_get texts token.place.text ≡ Some text) × StandsIn text.now token
