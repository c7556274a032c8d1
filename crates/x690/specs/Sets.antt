-- The sets of octets that nine string types take their characters from (X.680 41).
use Rattle.std.specs.Prelude.{ℕ, Bool, ◌||◌, List, IsTrue, nat_eq, codes}
use Rattle.std.specs.List.{list_all, list_any}
use Rattle.std.specs.Char.{is_ascii_digit, is_ascii_alphanumeric}
use Rattle.std.specs.Int.{is_in_range}

-- each octet is of the set
abbrev pub AllIn : (ℕ → Bool) → List ℕ → Type 0
AllIn in_set octets = IsTrue (list_all in_set octets)

-- digits and the space (41.2)
abbrev pub is_numeric : ℕ → Bool
is_numeric octet = is_ascii_digit octet || nat_eq octet 0x20

-- letters, digits, and the space and eleven more characters (41.4)
abbrev pub is_printable : ℕ → Bool
is_printable octet = is_ascii_alphanumeric octet || list_any (nat_eq octet) (codes " '()+,-./:=?")

-- from the space to 7f, which is taken too (41.1)
abbrev pub is_visible : ℕ → Bool
is_visible octet = is_in_range 0x20 0x7f octet

-- from the space to 7e, as the standard has VisibleString (41.1)
abbrev pub is_graphic : ℕ → Bool
is_graphic octet = is_in_range 0x20 0x7e octet
