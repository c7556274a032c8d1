use Rattle.std.proofs.Common.{◌≡◌}
use Rattle.asn1_json.specs.Leaves.{number_of_bits}
use Rattle.asn1_json.proofs.bits.first_octet.Given as goal

abbrev pub invariant-loop-place : goal.invariant-loop-place
invariant-loop-place l = l.octet ≡ number_of_bits l.place l.bits
