-- Laws of the sets: their octets are ASCII, so that strings of them are UTF-8.
use Rattle.std.proofs.Common.{◌≡◌, ℕ, ◌<◌, ◌≤◌, Bool, true, false, List, IsTrue, ◌⊎◌, inl, inr, arith, get_or, length}
use Rattle.std.proofs.Common.{refl}
use Rattle.std.proofs.lemmas.Bool.{cases_lt}
use Rattle.std.proofs.lemmas.Bool.Decides.{nat_tests}
use Rattle.std.proofs.lemmas.List.{get_or_past}
use Rattle.std.proofs.lemmas.List.Folds.{list_all_at}
use Rattle.std.proofs.lemmas.Str.{IsUtf8-from_ascii}
use Rattle.std.specs.Str.{IsUtf8, IsAscii}
use Rattle.std.specs.Char.{is_ascii, is_ascii_digit}
use Rattle.x690.specs.Octets.{IsOctets}
use Rattle.x690.specs.Sets.{AllIn, is_numeric, is_printable, is_visible, is_graphic}

-- a set below 80
abbrev pub IsAsciiSet : (ℕ → Bool) → Type 0
IsAsciiSet in_set = (octet : ℕ) → IsTrue (in_set octet) → octet < 128

-- Numeric characters are ASCII.
pub numeric_ascii : IsAsciiSet is_numeric
numeric_ascii octet h = grind (arith, nat_tests)

-- So are digits.
pub digits_ascii : IsAsciiSet is_ascii_digit
digits_ascii octet h = grind (arith, nat_tests)

-- So are graphic ones.
pub graphic_ascii : IsAsciiSet is_graphic
graphic_ascii octet h = grind (arith, nat_tests)

-- So are printable ones.
pub printable_ascii : IsAsciiSet is_printable
printable_ascii octet h = grind (arith, nat_tests)

-- So are those of the set of all that are.
pub ascii_ascii : IsAsciiSet is_ascii
ascii_ascii octet h = grind (arith, nat_tests)

-- So are visible ones.
pub visible_ascii : IsAsciiSet is_visible
visible_ascii octet h = grind (arith, nat_tests)

-- A string of characters of such a set is ASCII.
pub in_set_ascii : (in_set : ℕ → Bool) → IsAsciiSet in_set → (octets : List ℕ) → AllIn in_set octets → IsAscii octets
in_set_ascii in_set ascii octets all i = at (cases_lt i (length octets))
  where
    by_answer : (b : Bool) → in_set (get_or octets i 0) ≡ b → i < length octets → get_or octets i 0 < 128
    by_answer true e h = ascii (get_or octets i 0) e
    by_answer false e h = let n = list_all_at in_set octets i 0 h e in cc

    at : (i < length octets) ⊎ (length octets ≤ i) → get_or octets i 0 < 128
    at (inl h) = by_answer (in_set (get_or octets i 0)) refl h
    at (inr h) = let e = get_or_past octets i 0 h in omega arith

-- It is a text in UTF-8.
pub in_set_utf8 : (in_set : ℕ → Bool) → IsAsciiSet in_set → (octets : List ℕ) → AllIn in_set octets → IsUtf8 octets
in_set_utf8 in_set ascii octets all = IsUtf8-from_ascii octets (in_set_ascii in_set ascii octets all)

-- It is octets.
pub in_set_octets : (in_set : ℕ → Bool) → IsAsciiSet in_set → (octets : List ℕ) → AllIn in_set octets → IsOctets octets
in_set_octets in_set ascii octets all k = let below = in_set_ascii in_set ascii octets all k in omega arith
