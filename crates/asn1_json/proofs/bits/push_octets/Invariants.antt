use Rattle.std.proofs.Common.{◌≡◌, ◌++◌, drop}
use Rattle.asn1_schema.specs.Grammar.{bits_in}
use Rattle.asn1_json.proofs.bits.push_octets.Given as goal

abbrev pub invariant-loop-octet : goal.invariant-loop-octet
invariant-loop-octet l = l.bits.items ++ bits_in (drop l.octet-index l.octets) ≡ l.initial.bits.items ++ bits_in l.octets
