use Rattle.std.proofs.Common.{◌≡◌, ◌++◌, length}
use Rattle.asn1_json.specs.Leaves.{octets_of_bits}
use Rattle.asn1_json.proofs.bits.octets_of_bits.Given as goal

abbrev pub invariant-loop-rest : goal.invariant-loop-rest
invariant-loop-rest l = l.octets.items ++ octets_of_bits l.rest ≡ octets_of_bits l.bits

abbrev pub decreases-loop-rest : goal.decreases-loop-rest
decreases-loop-rest l = length l.rest
