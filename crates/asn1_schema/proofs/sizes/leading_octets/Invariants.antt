use Rattle.std.proofs.Common.{◌≡◌, ◌+◌, ◌≤◌, drop}
use Rattle.asn1_schema.specs.Values.{leads}
use Rattle.asn1_schema.proofs.sizes.leading_octets.Given as goal

abbrev pub invariant-loop-octet : goal.invariant-loop-octet
invariant-loop-octet l = record {
  count : leads l.octets ≡ l.count + leads (drop l.octet-index l.octets);
  within : l.count ≤ l.octet-index;
}
