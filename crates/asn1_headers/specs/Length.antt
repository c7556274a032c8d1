-- Lengths.
use Rattle.std.specs.Prelude.{◌+◌, ◌<◌, ◌^◌}
use Rattle.x690.specs.Lengths.{LengthForm, definite, indefinite}
use Rattle.asn1_headers.specs.declared.length.Length.{Length}
use Rattle.asn1_headers.specs.declared.length.Length.TheVariants.{Definite, Indefinite}

-- the form of the length octets that say a length
abbrev pub form_of : Length → LengthForm
form_of (Definite n) = definite n
form_of Indefinite = indefinite

-- the sum, which is indefinite where one of the two is
abbrev pub sum_of : Length → Length → Length
sum_of (Definite m) (Definite n) = Definite (m + n)
sum_of (Definite m) Indefinite = Indefinite
sum_of Indefinite n = Indefinite

-- the length is one that 64 bits hold
abbrev pub Fits : Length → Type 0
Fits (Definite n) = n < 2 ^ 64
Fits Indefinite = Unit {0}
