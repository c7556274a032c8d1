-- Contents octets of integers of either sign (X.690 8.3).
use Rattle.std.specs.Prelude.{ℕ, ◌-◌, ◌*◌, ◌^◌, List, map, ℤ, pos, negsuc, neg_ℤ, ◌≤ℤ◌, ◌<ℤ◌}
use Rattle.x690.specs.Integers.{unsigned_octets}

-- the octet with each bit turned over
abbrev pub complement : ℕ → ℕ
complement octet = 255 - octet

-- The strict contents octets of an integer. A natural number has its own, and -(n + 1) has those of n with each bit
-- turned over (X.690 8.3.2, 8.3.3).
unfoldable pub signed_octets : ℤ → List ℕ
signed_octets (pos n) = unsigned_octets n
signed_octets (negsuc n) = map complement (unsigned_octets n)

-- The integers that so many octets, one or more, hold in two's complement. They are below half of 256 to that number,
-- and not below its negative (X.690 8.3.3).
pub record IsSigned (size : ℕ) (n : ℤ) : Type 0 where
  pub least : neg_ℤ (pos (128 * 256 ^ (size - 1))) ≤ℤ n
  pub most : n <ℤ pos (128 * 256 ^ (size - 1))
