use Rattle.std.proofs.Common.{◌≡◌, ◌++◌, drop}
use Rattle.asn1_engine.specs.Pem.{seen_of}
use Rattle.asn1_engine.proofs.pem.push_base64.Given as goal

-- with the octets that are left all are told
abbrev pub invariant-loop-octet : goal.invariant-loop-octet
invariant-loop-octet l =
    l.base64.items ++ seen_of (drop l.octet-index l.line) ≡ l.fn.base64.items ++ seen_of l.line
