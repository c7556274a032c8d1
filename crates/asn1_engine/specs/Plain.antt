-- Octets that seem to be a text, as JSON and XML are.
use Rattle.std.specs.Prelude.{ℕ, Bool, ◌||◌, List, nat_le}
use Rattle.std.specs.Char.{is_ascii_whitespace}
use Rattle.std.specs.Str.{IsUtf8}
use Rattle.x690.specs.Sets.{AllIn}

-- an octet of a character that is seen, or white space
abbrev pub is_written : ℕ → Bool
is_written octet = nat_le 0x20 octet || is_ascii_whitespace octet

-- They are UTF-8, and have no control characters but white space. Hardly any element by BER is so.
abbrev pub SeemsText : List ℕ → Type 0
SeemsText octets = IsUtf8 octets × AllIn is_written octets
