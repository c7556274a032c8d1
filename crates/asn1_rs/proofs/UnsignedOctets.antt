-- Natural numbers, whose strict contents octets are those of the same integers.
use Rattle.std.proofs.Common.{◌≡◌, ℕ, ℤ, pos, sym, ap}
use Rattle.x690.specs.Integers.{unsigned_octets}
use Rattle.x690.specs.Signed.{signed_octets}

pub same_octets : (n : ℕ) (z : ℤ) → z ≡ pos n → unsigned_octets n ≡ signed_octets z
unfolding signed_octets
same_octets n z e = ap signed_octets (sym e)
