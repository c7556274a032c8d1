use Rattle.std.proofs.Common.{◌≡◌, ◌≤◌, length, take}
use Rattle.asn1_schema.specs.Grammar.{trimmed}
use Rattle.asn1_schema.specs.Bits.{used_bits}
use Rattle.asn1_schema.proofs.bits.without_zeros.Given as goal

abbrev pub invariant-loop-len : goal.invariant-loop-len
invariant-loop-len l = record {
  within : l.len ≤ length l.octets;
  same : trimmed (used_bits l.unused l.octets) ≡ trimmed (used_bits l.zeros (take l.len l.octets));
}

abbrev pub decreases-loop-len : goal.decreases-loop-len
decreases-loop-len l = l.len
