-- Octet strings, beginnings and the dictionary order.
use Rattle.std.specs.Prelude.{◌≡◌, ℕ, ◌<◌, ◌-◌, List, ◌++◌, length, replicate, get_or}
use Rattle.std.specs.declared.cmp.Ordering.{Ordering}
use Rattle.std.specs.Ordering.{nat_cmp, is_lt}
use Rattle.std.specs.Cmp.Lexicographic.{slice_cmp}
use Rattle.std.specs.Prelude.{false}

-- An octet string is a list of numbers below 256 (past its end 0 is read).
abbrev pub IsOctets : List ℕ → Type 0
IsOctets octets = (k : ℕ) → get_or octets k 0 < 256

-- the whole is the front, and then the rest
abbrev pub BeginsWith : List ℕ → List ℕ → List ℕ → Type 0
BeginsWith whole front rest = whole ≡ front ++ rest

-- The first difference decides, and a proper beginning comes first (X.690 11.6).
abbrev pub dictionary_order : List ℕ → List ℕ → Ordering
dictionary_order = slice_cmp nat_cmp

-- the one comes before the other in dictionary order, or is the same
abbrev pub IsBeforeOrSame : List ℕ → List ℕ → Type 0
IsBeforeOrSame one other = is_lt (dictionary_order other one) ≡ false

-- the octets, and zeros behind them where the other string is longer
abbrev pub padded : List ℕ → List ℕ → List ℕ
padded octets other = octets ++ replicate (length other - length octets) 0

-- so compared that the shorter string is padded with zeros behind it (X.690 11.6)
abbrev pub IsBeforeOrSamePadded : List ℕ → List ℕ → Type 0
IsBeforeOrSamePadded one other = IsBeforeOrSame (padded one other) (padded other one)
