use Rattle.std.proofs.Common.{◌-◌}
use Rattle.asn1_schema.proofs.bits.+lowest.Given as goal

abbrev pub decreases-lowest_bit : goal.decreases-lowest_bit
decreases-lowest_bit l = 8 - l.place
