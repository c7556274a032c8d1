use Rattle.std.proofs.Common.{◌≡◌, ◌++◌, drop}
use Rattle.asn1_engine.specs.Standing.{more_octets_text}
use Rattle.asn1_engine.proofs.standing.push_more.Given as goal

-- with the octets that are left all are told
abbrev pub invariant-loop-octet : goal.invariant-loop-octet
invariant-loop-octet l =
    l.text.items ++ more_octets_text (drop l.octet-index l.octets) ≡ l.fn.text.items ++ more_octets_text l.octets
