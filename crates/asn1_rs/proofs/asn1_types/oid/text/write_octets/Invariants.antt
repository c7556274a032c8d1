use Rattle.std.proofs.Common.{◌≡◌, List, ℕ, ◌++◌, drop}
use Rattle.std.specs.Fmt.{HasWritten, IsPlainFormatter}
use Rattle.asn1_rs.specs.Oid.Text.{hex_text}
use Rattle.asn1_rs.specs.Laws.Oid.Text.{spaced}
use Rattle.asn1_rs.proofs.asn1_types.oid.text.write_octets.Given as goal

abbrev pub invariant-loop-octet : goal.invariant-loop-octet
invariant-loop-octet g l =
    IsPlainFormatter l.fn.f → (done : List ℕ) × HasWritten g.W.Write.write_str_gives l.fn.f done l.f ×
    (done ++ spaced (drop l.octet-index l.others) ≡ hex_text l.fn.octets)
