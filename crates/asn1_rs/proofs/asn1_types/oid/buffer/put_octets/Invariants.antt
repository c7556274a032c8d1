use Rattle.std.proofs.Common.{◌≡◌, ◌≤◌, ◌++◌, length, take, drop}
use Rattle.asn1_rs.specs.Oid.Text.{hex_text}
use Rattle.asn1_rs.specs.Laws.Oid.Text.{spaced}
use Rattle.asn1_rs.proofs.asn1_types.oid.buffer.put_octets.Given as goal

abbrev pub invariant-loop-octet : goal.invariant-loop-octet
invariant-loop-octet l = record {
  within : l.end ≤ length l.out;
  put : take l.end l.out ++ spaced (drop l.octet-index l.others) ≡ hex_text l.fn.octets;
}
