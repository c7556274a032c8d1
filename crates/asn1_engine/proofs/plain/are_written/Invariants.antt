use Rattle.std.proofs.Common.{◌≡◌, drop}
use Rattle.std.specs.List.{list_all}
use Rattle.asn1_engine.specs.Plain.{is_written}
use Rattle.asn1_engine.proofs.plain.are_written.Given as goal

-- what is left decides
abbrev pub invariant-loop-octet : goal.invariant-loop-octet
invariant-loop-octet l = list_all is_written (drop l.octet-index l.octets) ≡ list_all is_written l.octets
